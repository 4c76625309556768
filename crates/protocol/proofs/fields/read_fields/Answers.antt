use Rattle.std.proofs.Common.{rules, refl, ◌∙◌, sym, ap, ◌-◌, ◌+◌, length, arith}
use Rattle.protocol.specs.Fields.{fields_in, all_read}
use Rattle.protocol.proofs.FieldLaws.{fields_more, fields_end, fields_bad}
use Rattle.protocol.proofs.fields.read_fields.Goals as goal

pub loop-preserved : goal.loop-preserved
loop-preserved c =
    let l = c.loop in
    let s = c.args.line.now in
    record {
      left = l.invariant.left ∙ fields_more (length s) l.counter s _ (omega arith) ∙ ap (fields_in (length s - (l.counter + 1)) s) (sym c.in_ok-fields.ensures.read);
      same = search rules;
    }

pub returns-in_err-fields-clause-read : goal.returns-in_err-fields-clause-read
returns-in_err-fields-clause-read c =
    let l = c.loop in
    let s = c.args.line.now in
    let n = c.read_field.new.memory in
    let e = l.invariant.left ∙ fields_more (length s) l.counter s _ (omega arith) ∙ ap (fields_in (length s - (l.counter + 1)) s) (sym c.in_err-fields.ensures.read)
    ∙ fields_bad (length s - (l.counter + 1)) s n.bytes.now n.ends.now n.numbers.now _ in
    let z = sym (ap (all_read s) e) in
    search (rules, z)

pub returns-then-is_all-clause-read : goal.returns-then-is_all-clause-read
returns-then-is_all-clause-read c =
    let l = c.loop in
    let s = c.args.line.now in
    let e = l.invariant.left ∙ fields_end (length s) l.counter s _ (omega arith) in
    rw e (rw (sym c.is_all.ensures ∙ c.if-is_all.true) refl)

pub returns-else-is_all-clause-read : goal.returns-else-is_all-clause-read
returns-else-is_all-clause-read c =
    let l = c.loop in
    let s = c.args.line.now in
    let e = l.invariant.left ∙ fields_end (length s) l.counter s _ (omega arith) in
    rw e (rw (sym c.is_all.ensures ∙ c.if-is_all.false) refl)

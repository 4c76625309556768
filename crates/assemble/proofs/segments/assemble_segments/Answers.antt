use Rattle.std.proofs.Common.{refl, sym, ap, ◌∙◌, rules, arith, Err, None, ◌*◌, take, length}
use Rattle.bitio.proofs.LimitLaws.{limit_kept, limit_passed}
use Rattle.blocks.specs.Numbers.{width}
use Rattle.assemble.specs.Whole.{lent_of}
use Rattle.assemble.specs.Records.{records_outcome}
use Rattle.assemble.proofs.AnswerLaws.{kept, retold}
use Rattle.assemble.proofs.RecordLaws.{after-none, after-all, records-within, records-long, records-refused, records-made}
use Rattle.assemble.proofs.segments.assemble_segments.Goals as goal

pub returns-in_err-check_limit-clause-handed : goal.returns-in_err-check_limit-clause-handed
returns-in_err-check_limit-clause-handed c =
    let a = c.args in
    let d = lent_of a.buffers.now in
    let (m, k) = limit_passed a.picture.now c.in_err-check_limit.ensures in
    let e = records-long a.picture.now a.segments.now a.numbers.now a.settings d c.if-segments-numbers.true m in
    let h = kept (records_outcome a.picture.now a.segments.now a.numbers.now a.settings) d (Err (record { refusal = c.in_err-check_limit.field-0.0; segment = None })) (rw k refl) (sym e) in
    search (rules, h)

pub returns-in_err-check_limit-clause-numbers : goal.returns-in_err-check_limit-clause-numbers
returns-in_err-check_limit-clause-numbers c = after-none _ _ c.if-segments-numbers.true

pub returns-then-segments-numbers-clause-handed : goal.returns-then-segments-numbers-clause-handed
returns-then-segments-numbers-clause-handed c =
    let a = c.args in
    let d = lent_of a.buffers.now in
    let m = limit_kept a.picture.now c.in_ok-check_limit.ensures in
    let e = records-refused a.picture.now a.segments.now a.numbers.now a.settings d c.if-segments-numbers.true m in
    rw c.overall.ensures (kept _ _ _ refl (sym e))

pub returns-then-segments-numbers-clause-numbers : goal.returns-then-segments-numbers-clause-numbers
returns-then-segments-numbers-clause-numbers c = after-none _ _ c.if-segments-numbers.true

pub slice_bounds-numbers-end : goal.slice_bounds-numbers-end
slice_bounds-numbers-end c =
    let a = c.args in
    let w = records-within a.segments.now a.numbers.now c.if-segments-numbers.false in
    omega (arith, w, ap length c.put_records.ensures)

pub returns-clause-handed : goal.returns-clause-handed
returns-clause-handed c =
    let a = c.args in
    let e = records-made a.picture.now a.segments.now a.numbers.now a.settings (lent_of a.buffers.now) _ c.if-segments-numbers.false (ap (take (width * length a.segments.now)) c.put_records.ensures) in
    retold e c.assemble_multi.ensures.handed

pub returns-clause-numbers : goal.returns-clause-numbers
returns-clause-numbers c = let a = c.args in c.put_records.ensures ∙ after-all a.segments.now a.numbers.now c.if-segments-numbers.false

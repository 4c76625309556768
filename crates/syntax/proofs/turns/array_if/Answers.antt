use Rattle.std.proofs.Common.{◌≡◌, Ok, Err, cond, arith, rules}
use Rattle.syntax.proofs.TurnsLaws.{next_item, end_item}
use Rattle.syntax.proofs.turns.array_if.Goals as goal

pub returns-in_err-items : goal.returns-in_err-items
returns-in_err-items g c = λ x h.
    let n : c.if-on.n ≡ cond c.args.on g.row.N 0 = search rules in
    let z = rw (← h.same _ (Err c.in_err-items.field-0.0) c.in_err-items.ensures) at (next_item (c.loop-i.invariant x h) (omega arith)) in
    search (rules, z)

pub loop-i-preserved : goal.loop-i-preserved
loop-i-preserved g c = λ x h.
    let n : c.if-on.n ≡ cond c.args.on g.row.N 0 = search rules in
    record { same = rw (← h.same _ (Ok (c.in_ok-items.field-0-0, c.in_ok-items.field-0-1)) c.in_ok-items.ensures) at (next_item (c.loop-i.invariant x h) (omega arith)) }

pub returns : goal.returns
returns g c = λ x h.
    let n : c.if-on.n ≡ cond c.args.on g.row.N 0 = search rules in
    end_item (c.loop-i.invariant x h) (omega arith)

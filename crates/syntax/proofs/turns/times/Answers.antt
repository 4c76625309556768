use Rattle.std.proofs.Common.{arith, rules}
use Rattle.syntax.proofs.TurnsLaws.{next_over, end_over}
use Rattle.syntax.proofs.turns.times.Goals as goal

pub returns-in_err-reader : goal.returns-in_err-reader
returns-in_err-reader g c = λ x h.
    let z = rw (← h.same _ _ c.in_err-reader.ensures) at (next_over (c.loop.invariant x h) (omega arith)) in
    search (rules, z)

pub loop-preserved : goal.loop-preserved
loop-preserved g c = λ x h. record { same = rw (← h.same _ _ c.in_ok-reader.ensures) at (next_over (c.loop.invariant x h) (omega arith)) }

pub returns : goal.returns
returns g c = λ x h. end_over (c.loop.invariant x h) (omega arith)

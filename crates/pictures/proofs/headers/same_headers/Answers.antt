use Rattle.std.proofs.Common.{arith, rules, ap, ◌∙◌}
use Rattle.pictures.specs.Assemble.{in_segment}
use Rattle.pictures.proofs.SameLaws.{agree-start, agree-refused, agree-turn, agree-end}
use Rattle.pictures.proofs.headers.same_headers.Goals as goal

pub loop-i-init : goal.loop-i-init
loop-i-init c = agree-start _ _ _

pub returns : goal.returns
returns c = agree-end c.loop-i.invariant (omega arith)

pub returns-in_err-in_segment : goal.returns-in_err-in_segment
returns-in_err-in_segment c =
    let e = agree-refused c.loop-i.invariant (omega arith) _ c.key.ensures _ _ (c.in_err-in_segment.ensures ∙ ap (in_segment c.loop-i.i) c.check_same.ensures) in
    search (rules, e)

pub loop-i-preserved : goal.loop-i-preserved
loop-i-preserved c = agree-turn c.loop-i.invariant (omega arith) _ c.key.ensures (c.in_ok-in_segment.ensures ∙ ap (in_segment c.loop-i.i) c.check_same.ensures)

use Rattle.std.proofs.Common.{arith, rules, ap, ◌∙◌}
use Rattle.pictures.specs.Assemble.{in_segment}
use Rattle.pictures.proofs.MeasureLaws.{measure-start, measure-stop, measure-turn, measure-end}
use Rattle.pictures.proofs.pictures.measure_pictures.Goals as goal

pub loop-i-init : goal.loop-i-init
loop-i-init c = measure-start _ _ _ _

pub returns : goal.returns
returns c = measure-end c.loop-i.invariant (omega arith)

pub returns-in_err-n : goal.returns-in_err-n
returns-in_err-n c =
    let e = measure-stop c.loop-i.invariant (omega arith) _ _ c.key-key.ensures c.golden-golden.ensures _ _ (c.in_err-n.ensures ∙ ap (in_segment c.loop-i.i) c.measure_units.ensures) in
    search (rules, e)

pub loop-i-preserved : goal.loop-i-preserved
loop-i-preserved c =
    measure-turn c.loop-i.invariant (omega arith) _ _ c.key-key.ensures c.golden-golden.ensures _ _ (c.in_ok-n.ensures ∙ ap (in_segment c.loop-i.i) c.measure_units.ensures) c.saturating_add-sum.ensures

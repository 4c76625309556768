use Rattle.std.proofs.Common.{arith, rules, sym, ◌≡◌, ◌<◌, length}
use Rattle.std.proofs.lemmas.Grind.{common_steps}
use Rattle.annexb.proofs.PartLaws.{part-less, length-less}
use Rattle.annexb.proofs.MeasureLaws.{units-start, frames-start, obus-start, obus-next, obus-end, frames-end, units-stop, frames-stop, obus-stop, units-sizes, fault-says}
use Rattle.annexb.proofs.annexb.measure.measure.Goals as goal

pub loop-left-init : goal.loop-left-init
loop-left-init c = units-start _

pub returns-in-Err : goal.returns-in-Err
returns-in-Err c =
    let l : 0 < length c.loop-left.left.now = grind (arith, common_steps) in
    let e = fault-says c.args.«data».now (units-stop c.loop-left.invariant l (sym c.in-Err.ensures)) in
    search (rules, e)

pub loop-unit-init : goal.loop-unit-init
loop-unit-init c = frames-start c.loop-left.invariant (sym c.in-Ok.ensures)

pub returns-in-Err-first_frame : goal.returns-in-Err-first_frame
returns-in-Err-first_frame c =
    let l : 0 < length c.loop-unit.unit.now = grind (arith, common_steps) in
    let e = fault-says c.args.«data».now (frames-stop c.loop-unit.invariant l (sym c.in-Err-first_frame.ensures)) in
    search (rules, e)

pub loop-frame-init : goal.loop-frame-init
loop-frame-init c = obus-start c.loop-unit.invariant (sym c.in-Ok-first_frame.ensures)

pub returns-in-Err-first_obu : goal.returns-in-Err-first_obu
returns-in-Err-first_obu c =
    let l : 0 < length c.loop-frame.frame.now = grind (arith, common_steps) in
    let e = fault-says c.args.«data».now (obus-stop c.loop-frame.invariant l (sym c.in-Err-first_obu.ensures)) in
    search (rules, e)

pub overflow_add-bytes : goal.overflow_add-bytes
overflow_add-bytes c =
    let n = obus-next c.loop-frame.invariant c.requires (sym c.in-Ok-first_obu.ensures) c.obu_len-bytes.ensures in
    omega (arith, n.few, c.requires)

pub loop-frame-smaller : goal.loop-frame-smaller
loop-frame-smaller c = omega (arith, length-less _ (sym c.in-Ok-first_obu.ensures))

pub loop-frame-preserved : goal.loop-frame-preserved
loop-frame-preserved c = obus-next c.loop-frame.invariant c.requires (sym c.in-Ok-first_obu.ensures) c.obu_len-bytes.ensures

pub loop-unit-smaller : goal.loop-unit-smaller
loop-unit-smaller c = omega (arith, part-less 8 9 _ (sym c.in-Ok-first_frame.ensures))

pub loop-unit-preserved : goal.loop-unit-preserved
loop-unit-preserved c =
    let l : length c.loop-frame.frame.now ≡ 0 = grind (arith, common_steps) in
    obus-end c.loop-frame.invariant l

pub loop-left-smaller : goal.loop-left-smaller
loop-left-smaller c = omega (arith, part-less 6 7 _ (sym c.in-Ok.ensures))

pub loop-left-preserved : goal.loop-left-preserved
loop-left-preserved c =
    let l : length c.loop-unit.unit.now ≡ 0 = grind (arith, common_steps) in
    frames-end c.loop-unit.invariant l

pub returns-after-loop-left : goal.returns-after-loop-left
returns-after-loop-left c =
    let l : length c.loop-left.left.now ≡ 0 = grind (arith, common_steps) in
    units-sizes c.loop-left.invariant l

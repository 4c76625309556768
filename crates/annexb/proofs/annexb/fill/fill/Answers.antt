use Rattle.std.proofs.Common.{arith}
use Rattle.container.proofs.AnnexBLaws.{temporal-shrinks}
use Rattle.annexb.proofs.FillLaws.{walk-room, walk-held, held-is, unit-given, unit-none, given-some, whole-all, all_start, all_small, all-slot, all-next, all_end}
use Rattle.annexb.proofs.annexb.fill.fill.Goals as goal

pub loop-u-init : goal.loop-u-init
loop-u-init c =
    let e = c.enumerate-u-items.ensures in
    rw (c.into_iter-u-iterator.ensures.into_iter_gives, e.source, e.count, c.new.ensures) (all_start _ _ _)

pub fill_unit-w-requires : goal.fill_unit-w-requires
fill_unit-w-requires c =
    let q = c.in-Some.ensures.steps.0 in
    let h = walk-held _ _ temporal-shrinks _ _ _ (whole-all c.requires) c.loop-u.invariant.walk _ _ (given-some _ q) (unit-given _ q) in
    record { held = h.0; reads = h.1; room = walk-room _ _ temporal-shrinks _ _ _ (whole-all c.requires) c.loop-u.invariant.walk h.2 }

pub overflow_cast-ends : goal.overflow_cast-ends
overflow_cast-ends c =
    let q = c.in-Some.ensures.steps.0 in
    let h = walk-held _ _ temporal-shrinks _ _ _ (whole-all c.requires) c.loop-u.invariant.walk _ _ (given-some _ q) (unit-given _ q) in
    omega (arith, (held-is h.1 c.fill_unit-w.ensures).next, all_small c.requires c.loop-u.invariant _ h.2)

pub offset_bounds-ends-u : goal.offset_bounds-ends-u
offset_bounds-ends-u c =
    let q = c.in-Some.ensures.steps.0 in
    let h = walk-held _ _ temporal-shrinks _ _ _ (whole-all c.requires) c.loop-u.invariant.walk _ _ (given-some _ q) (unit-given _ q) in
    omega (arith, all-slot c.requires c.loop-u.invariant _ h.2, c.loop-u.invariant.kept, c.in-Some.ensures.steps.1)

pub bounds-ends-u : goal.bounds-ends-u
bounds-ends-u c =
    let q = c.in-Some.ensures.steps.0 in
    let h = walk-held _ _ temporal-shrinks _ _ _ (whole-all c.requires) c.loop-u.invariant.walk _ _ (given-some _ q) (unit-given _ q) in
    omega (arith, all-slot c.requires c.loop-u.invariant _ h.2, c.in-Some.ensures.steps.1)

pub loop-u-preserved : goal.loop-u-preserved
loop-u-preserved c =
    let q = c.in-Some.ensures.steps.0 in
    let h = walk-held _ _ temporal-shrinks _ _ _ (whole-all c.requires) c.loop-u.invariant.walk _ _ (given-some _ q) (unit-given _ q) in
    let s = c.in-Some.ensures.steps in
    rw (s.2, s.1) (all-next c.requires c.loop-u.invariant _ h.2 (held-is h.1 c.fill_unit-w.ensures))

pub returns : goal.returns
returns c = all_end c.requires c.loop-u.invariant _ (unit-none _ c.in-None.ensures.steps.0.1)

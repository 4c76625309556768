use Rattle.container.proofs.AnnexBLaws.{frame-shrinks}
use Rattle.annexb.proofs.FillLaws.{walk_start, walk-room, walk-next, walk-held, walk_end, whole-unit, unit-held, held-is, frame-given, frame-none, given-some}
use Rattle.annexb.proofs.annexb.fill.fill_unit.Goals as goal

pub loop-frame-init : goal.loop-frame-init
loop-frame-init c =
    let e = c.into_iter-frame-iterator.ensures.into_iter_gives in
    rw (e, c.new-frame-items.ensures) (walk_start _ _ frame-shrinks _ _ _)

pub fill_frame-w-requires : goal.fill_frame-w-requires
fill_frame-w-requires c =
    let q = c.in-Some.ensures.steps in
    let h = walk-held _ _ frame-shrinks _ _ _ (whole-unit _ _ _ c.requires) c.loop-frame.invariant _ _ (given-some _ q) (frame-given _ q) in
    record { held = h.0; reads = h.1; room = walk-room _ _ frame-shrinks _ _ _ (whole-unit _ _ _ c.requires) c.loop-frame.invariant h.2 }

pub loop-frame-preserved : goal.loop-frame-preserved
loop-frame-preserved c =
    let q = c.in-Some.ensures.steps in
    let h = walk-held _ _ frame-shrinks _ _ _ (whole-unit _ _ _ c.requires) c.loop-frame.invariant _ _ (given-some _ q) (frame-given _ q) in
    walk-next _ _ frame-shrinks _ _ _ (whole-unit _ _ _ c.requires) c.loop-frame.invariant h.2 (held-is h.1 c.fill_frame-w.ensures)

pub returns : goal.returns
returns c =
    let n = frame-none _ c.in-None.ensures.steps.1 in
    unit-held _ _ _ (whole-unit _ _ _ c.requires) (walk_end _ _ frame-shrinks _ _ _ (whole-unit _ _ _ c.requires) c.loop-frame.invariant _ n.1)

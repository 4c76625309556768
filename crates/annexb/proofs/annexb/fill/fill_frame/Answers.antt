use Rattle.std.proofs.Common.{sym}
use Rattle.container.proofs.AnnexBLaws.{length-shrinks}
use Rattle.annexb.proofs.PartLaws.{inner-is}
use Rattle.annexb.proofs.FillLaws.{walk_start, walk-room, walk-next, walk-stop, walk_end, whole-frame, frame-held, obu-given, obu-none, given-some, obu-put, obu-room}
use Rattle.annexb.proofs.annexb.fill.fill_frame.Goals as goal

pub loop-part-init : goal.loop-part-init
loop-part-init c =
    let e = c.into_iter-part-iterator.ensures.into_iter_gives in
    rw (e, c.new-part-items.ensures) (walk_start _ _ length-shrinks _ _ _)

pub returns-in_default : goal.returns-in_default
returns-in_default c =
    let q = c.in-Some.ensures.steps in
    absurd (walk-stop _ _ length-shrinks _ _ _ (whole-frame _ _ _ c.requires) c.loop-part.invariant (given-some _ q) _ (obu-given _ q (sym (rw c.in_default.is at c.inner_obu.ensures))))

pub put_measured-w-requires : goal.put_measured-w-requires
put_measured-w-requires c =
    let o = sym c.in-Ok.ensures in
    let r = walk-room _ _ length-shrinks _ _ _ (whole-frame _ _ _ c.requires) c.loop-part.invariant (obu-given _ c.in-Some.ensures.steps o) in
    ((inner-is o).passing, obu-room _ _ _ r)

pub loop-part-preserved : goal.loop-part-preserved
loop-part-preserved c =
    walk-next _ _ length-shrinks _ _ _ (whole-frame _ _ _ c.requires) c.loop-part.invariant (obu-given _ c.in-Some.ensures.steps (sym c.in-Ok.ensures)) (obu-put _ _ _ c.put_measured-w.ensures)

pub returns : goal.returns
returns c =
    let n = obu-none _ c.in-None.ensures.steps.1 in
    frame-held _ _ _ (whole-frame _ _ _ c.requires) (walk_end _ _ length-shrinks _ _ _ (whole-frame _ _ _ c.requires) c.loop-part.invariant _ n.1)

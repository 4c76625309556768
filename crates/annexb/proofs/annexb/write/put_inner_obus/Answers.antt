use Rattle.std.proofs.Common.{ap}
use Rattle.std.specs.Prelude.{Some, None, Ok, Err}
use Rattle.obu.specs.Obu.{passes}
use Rattle.obu.proofs.ObuLaws.{obu-shrinks}
use Rattle.obu.proofs.PlaceLaws.{is-end, is-wrong}
use Rattle.obu.proofs.WalkLaws.{over-start, over-next, given-here, turn}
use Rattle.container.specs.AnnexB.{inner_bytes}
use Rattle.annexb.proofs.FillLaws.{walk_start, walk-room, walk-next, walk-stop, walk_all}
use Rattle.annexb.proofs.JoinLaws.{left-some, left-none, placed-is, stop-at, placed-size, whole-obus, obus-laid}
use Rattle.annexb.proofs.annexb.write.put_inner_obus.Goals as goal

pub loop-found-init : goal.loop-found-init
loop-found-init c =
    let e = c.into_iter-found-iterator.ensures.into_iter_gives in
    (over-start {at = 0} (rw e c.new-found-items.ensures), rw (e, c.new-found-items.ensures.1) (walk_start _ _ (obu-shrinks passes) _ _ _))

pub put_length_obu-w-requires : goal.put_length_obu-w-requires
put_length_obu-w-requires c =
    let i = c.loop-found.invariant in
    let s = rw c.in-Ok.is at c.in-Some.ensures.steps in
    let g = turn _ c.next.new.self i.0 s in
    let r = walk-room _ _ (obu-shrinks passes) _ _ _ (whole-obus c.requires.obus_room) i.1 g.placed.head in
    record { u_len_bound = c.requires.u_len_bound; obu_type_value = (rw g.type at g.placed.passing, rw (placed-size g) at r) }

pub loop-found-preserved : goal.loop-found-preserved
loop-found-preserved c =
    let i = c.loop-found.invariant in
    let s = rw c.in-Ok.is at c.in-Some.ensures.steps in
    let g = turn _ c.next.new.self i.0 s in (
      over-next i.0 (Some (Ok c.in-Ok.o)) c.next.new.self s,
      rw s.1.1 (walk-next _ _ (obu-shrinks passes) _ _ _ (whole-obus c.requires.obus_room) i.1 g.placed.head (rw (ap inner_bytes (placed-is g)) at c.put_length_obu-w.ensures)),
    )

pub returns-in_default : goal.returns-in_default
returns-in_default c =
    let i = c.loop-found.invariant in
    let q = given-here i.0 (Some (Err c.in_default.field-0)) c.next.new.self (rw c.in_default.is at c.in-Some.ensures.steps) in
    let l = (is-wrong _ _ _ q).0 in
    absurd (walk-stop _ _ (obu-shrinks passes) _ _ _ (whole-obus c.requires.obus_room) i.1 (left-some _ _ l) _ (stop-at _ _ _ l q))

pub returns : goal.returns
returns c =
    let i = c.loop-found.invariant in
    obus-laid (whole-obus c.requires.obus_room) (walk_all _ _ (obu-shrinks passes) _ _ _ (whole-obus c.requires.obus_room) i.1 (left-none _ _ (is-end _ _ (given-here i.0 None c.next.new.self c.in-None.ensures.steps))))

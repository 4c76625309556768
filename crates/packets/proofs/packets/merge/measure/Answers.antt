use Rattle.packets.proofs.PacketMergeLaws.{measure-start, measure-next, measure-end, done-piece}
use Rattle.packets.proofs.packets.merge.measure.Goals as goal

pub loop-place-init : goal.loop-place-init
loop-place-init c =
    let w = c.new-place-items.ensures in
    rw (c.into_iter-place-iterator.ensures.into_iter_gives, w.1, w.2) (w.0, measure-start c.requires)

pub piece_len-requires : goal.piece_len-requires
piece_len-requires c =
    let i = c.loop-place.invariant in
    let g = rw i.0 at c.in-Some.ensures.steps in
    let m = rw g.0 at i.1 in
    rw g.1 (done-piece m.state _ g.2 g.3)

pub loop-place-preserved : goal.loop-place-preserved
loop-place-preserved c =
    let i = c.loop-place.invariant in
    let g = rw i.0 at c.in-Some.ensures.steps in
    let m = rw g.0 at i.1 in
    (g.4, rw g.5 (measure-next m _ g.2 g.3 (rw g.1 at c.piece_len.ensures) c.saturating_add-bytes.ensures))

pub returns : goal.returns
returns c =
    let i = c.loop-place.invariant in
    measure-end (rw c.in-None.ensures.steps.0 at i.1)

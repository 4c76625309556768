use Rattle.std.proofs.Common.{arith}
use Rattle.packets.proofs.PacketMergeLaws.{put-start, put-room, put-slots, put_small, put_next, put-end}
use Rattle.packets.proofs.packets.merge.write.Goals as goal

pub loop-u-init : goal.loop-u-init
loop-u-init c =
    let e = c.enumerate-u-items.ensures in
    let w = c.new.ensures in
    rw (c.into_iter-u-iterator.ensures.into_iter_gives, e.source, e.count, w.1, w.2) (w.0, put-start c.requires)

pub put_piece-w-requires : goal.put_piece-w-requires
put_piece-w-requires c =
    let i = c.loop-u.invariant in
    let t = c.in-Some.ensures.steps in
    let g = rw i.0 at t.0 in
    let m = rw g.0 at i.1 in
    rw g.1 (put-room m _ g.2 g.3)

pub overflow_cast-out_ends : goal.overflow_cast-out_ends
overflow_cast-out_ends c =
    let i = c.loop-u.invariant in
    let t = c.in-Some.ensures.steps in
    let g = rw i.0 at t.0 in
    let m = rw g.0 at i.1 in
    omega (arith, put_small m _ g.2 g.3 (rw g.1 at c.put_piece-w.ensures))

pub bounds-out_ends-u : goal.bounds-out_ends-u
bounds-out_ends-u c =
    let i = c.loop-u.invariant in
    let t = c.in-Some.ensures.steps in
    let g = rw i.0 at t.0 in
    let m = rw g.0 at i.1 in
    omega (arith, put-slots m _ g.2 g.3, t.1)

pub bounds-out_times-u : goal.bounds-out_times-u
bounds-out_times-u c =
    let i = c.loop-u.invariant in
    let t = c.in-Some.ensures.steps in
    let g = rw i.0 at t.0 in
    let m = rw g.0 at i.1 in
    omega (arith, put-slots m _ g.2 g.3, t.1)

pub loop-u-preserved : goal.loop-u-preserved
loop-u-preserved c =
    let i = c.loop-u.invariant in
    let t = c.in-Some.ensures.steps in
    let g = rw i.0 at t.0 in
    let m = rw g.0 at i.1 in
    (g.4, rw (t.2, t.1, g.5) (put_next m _ g.2 g.3 (rw g.1 at c.put_piece-w.ensures)))

pub returns : goal.returns
returns c =
    let i = c.loop-u.invariant in
    put-end (rw c.in-None.ensures.steps.0.0 at i.1)

use Rattle.std.proofs.Common.{arith}
use Rattle.container.proofs.StreamTurns.{stream-frames, sizing-start, sizing-fits, sizing-next, sizing-end}
use Rattle.container.proofs.stream.measure.Goals as goal

pub loop-x-init-derived : goal.loop-x-init-derived
loop-x-init-derived c =
    let w = c.new-x-items.ensures in
    (rw (c.into_iter-x-iterator.ensures.into_iter_gives, w.0, w.1, w.2) (stream-frames c.requires), tt)

pub loop-x-init : goal.loop-x-init
loop-x-init c =
    let w = c.new-x-items.ensures in
    rw (c.into_iter-x-iterator.ensures.into_iter_gives, w.1, w.2) (w.0, sizing-start c.requires)

pub overflow_add-bytes : goal.overflow_add-bytes
overflow_add-bytes c =
    let i = c.loop-x.invariant in
    let g = rw i.0 at c.in-Some.ensures.steps in
    omega (arith, sizing-fits i.1 g.0 c.unit_len-bytes.ensures)

pub loop-x-preserved : goal.loop-x-preserved
loop-x-preserved c =
    let i = c.loop-x.invariant in
    let g = rw i.0 at c.in-Some.ensures.steps in
    (g.1.0, rw g.1.1 (sizing-next i.1 g.0 c.unit_len-bytes.ensures g.1.2))

pub returns : goal.returns
returns c =
    let i = c.loop-x.invariant in
    sizing-end i.1 (rw i.0 at c.in-None.ensures.steps).0

use Rattle.std.proofs.Common.{arith}
use Rattle.container.proofs.StreamTurns.{stream-frames, writing_start, writing-room, writing-small, writing-slot, writing-next, writing-end}
use Rattle.container.proofs.stream.write.Goals as goal

pub loop-x-init-derived : goal.loop-x-init-derived
loop-x-init-derived c =
    let w = c.new-x-items.ensures in
    (rw (c.into_iter-x-iterator.ensures.into_iter_gives, w.0, w.1, w.2) (stream-frames c.requires.stream), tt)

pub loop-x-init : goal.loop-x-init
loop-x-init c =
    let w = c.new-x-items.ensures in
    rw (c.into_iter-x-iterator.ensures.into_iter_gives, w.1, w.2) (w.0, writing_start c.requires)

pub put_unit-w-requires : goal.put_unit-w-requires
put_unit-w-requires c =
    let i = c.loop-x.invariant in
    let g = rw i.0 at c.in-Some.ensures.steps in
    writing-room i.1 g.0

pub overflow_cast-ends : goal.overflow_cast-ends
overflow_cast-ends c =
    let i = c.loop-x.invariant in
    let g = rw i.0 at c.in-Some.ensures.steps in
    omega (arith, writing-small i.1 g.0 c.put_unit-w.ensures)

pub bounds-ends-u : goal.bounds-ends-u
bounds-ends-u c =
    let i = c.loop-x.invariant in
    let g = rw i.0 at c.in-Some.ensures.steps in
    writing-slot i.1 g.0 c.put_unit-w.ensures

pub loop-x-preserved : goal.loop-x-preserved
loop-x-preserved c =
    let i = c.loop-x.invariant in
    let g = rw i.0 at c.in-Some.ensures.steps in
    (g.1.0, rw g.1.1 (writing-next i.1 g.0 c.put_unit-w.ensures g.1.2))

pub returns : goal.returns
returns c =
    let i = c.loop-x.invariant in
    let e = writing-end i.1 (rw i.0 at c.in-None.ensures.steps).0 in
    record { s_value = e.0; out_after = e.1.0; ends_after = e.1.1 }

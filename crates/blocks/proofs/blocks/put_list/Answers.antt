use Rattle.std.proofs.Common.{arith}
use Rattle.blocks.proofs.ListLaws.{list-start, list-room, list-small, list-turn, list-end}
use Rattle.blocks.proofs.blocks.put_list.Goals as goal

pub loop-i-init : goal.loop-i-init
loop-i-init c = list-start c.args.list.now c.args.cues.now c.args.gop c.args.segments.now c.requires

pub overflow_cast-i : goal.overflow_cast-i
overflow_cast-i c = omega (arith, c.requires.segments)

pub put_segment-c-requires-clause-room : goal.put_segment-c-requires-clause-room
put_segment-c-requires-clause-room c = rw (c.new-blocks.ensures, c.frames_of-frames.ensures) (list-room c.loop-i.invariant (omega arith))

pub overflow_add-at : goal.overflow_add-at
overflow_add-at c = omega (arith, list-small c.loop-i.invariant (omega arith) c.requires.gop-size, c.frames_of-frames.ensures)

pub loop-i-preserved : goal.loop-i-preserved
loop-i-preserved c =
    let e = c.frames_of-frames.ensures in
    rw e (list-turn c.loop-i.invariant (omega arith) c.requires.gop-size _ _ _ (rw (c.new-blocks.ensures, e) at c.put_segment-c.ensures))

pub returns : goal.returns
returns c = list-end c.loop-i.invariant (omega arith)

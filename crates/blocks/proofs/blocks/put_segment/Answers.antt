use Rattle.std.proofs.Common.{arith}
use Rattle.blocks.proofs.LayLaws.{next-some, segment-list-room, segment-cue-room, segment-small, segment-turn, segment-end}
use Rattle.blocks.proofs.blocks.put_segment.Goals as goal

pub put_block-requires-clause-room : goal.put_block-requires-clause-room
put_block-requires-clause-room c = segment-list-room c.loop-b.invariant c.in-Some.ensures.steps

pub put_cue-q-requires-clause-room : goal.put_cue-q-requires-clause-room
put_cue-q-requires-clause-room c = segment-cue-room c.loop-b.invariant c.in-Some.ensures.steps

pub put_cue-q-requires-clause-small : goal.put_cue-q-requires-clause-small
put_cue-q-requires-clause-small c =
    let n = c.in-Some.ensures.steps in
    omega (arith, segment-small c.loop-b.invariant n, next-some n)

pub overflow_add-p : goal.overflow_add-p
overflow_add-p c = omega (arith, segment-small c.loop-b.invariant c.in-Some.ensures.steps)

pub loop-b-preserved : goal.loop-b-preserved
loop-b-preserved c =
    let w = c.put_cue-q.ensures in
    segment-turn c.loop-b.invariant c.in-Some.ensures.steps _ _ _ c.put_block.ensures w.cues w.next

pub returns : goal.returns
returns c = segment-end c.loop-b.invariant c.in-None.ensures.steps

use Rattle.std.proofs.Common.{arith}
use Rattle.blocks.proofs.CountLaws.{all_start, all_small, all-turn, all_end}
use Rattle.blocks.proofs.blocks.count_cues.Goals as goal

pub loop-i-init : goal.loop-i-init
loop-i-init c = all_start _ _

pub overflow_add-n : goal.overflow_add-n
overflow_add-n c =
    let r = rw (c.new.ensures, c.frames_of-frames.ensures) at c.count_segment-n.ensures in
    omega (arith, all_small c.loop-i.invariant (omega arith) _ c.requires.gop r, c.requires.small)

pub loop-i-preserved : goal.loop-i-preserved
loop-i-preserved c = all-turn c.loop-i.invariant (omega arith) _ (rw (c.new.ensures, c.frames_of-frames.ensures) at c.count_segment-n.ensures)

pub returns : goal.returns
returns c = all_end c.loop-i.invariant (omega arith)

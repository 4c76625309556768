use Rattle.std.proofs.Common.{arith}
use Rattle.pictures.proofs.SizeLaws.{sum-start, sum-turn, sum-end}
use Rattle.pictures.proofs.sizes.total_frames.Goals as goal

pub loop-i-init : goal.loop-i-init
loop-i-init c = sum-start _

pub loop-i-preserved : goal.loop-i-preserved
loop-i-preserved c = sum-turn _ c.loop-i.invariant (omega arith) (rw c.frames_of.ensures at c.saturating_add-sum.ensures)

pub returns : goal.returns
returns c = sum-end c.loop-i.invariant (omega arith)

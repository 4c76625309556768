use Rattle.pictures.proofs.SizeLaws.{Summing}
use Rattle.pictures.proofs.sizes.total_frames.Given as goal

abbrev pub invariant-loop-i : goal.invariant-loop-i
invariant-loop-i l = Summing l.segments l.i l.sum

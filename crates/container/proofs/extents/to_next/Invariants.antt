use Rattle.std.proofs.Common.{◌-◌, length}
use Rattle.container.proofs.ExtentTurns.{Nexting}
use Rattle.container.proofs.extents.to_next.Given as goal

abbrev pub invariant-loop-o : goal.invariant-loop-o
invariant-loop-o l = Nexting l.s l.at l.p

abbrev pub decreases-loop-o : goal.decreases-loop-o
decreases-loop-o l = length l.s - l.p

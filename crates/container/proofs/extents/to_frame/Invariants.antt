use Rattle.std.proofs.Common.{◌-◌, length}
use Rattle.container.proofs.ExtentTurns.{Heading}
use Rattle.container.proofs.extents.to_frame.Given as goal

abbrev pub invariant-loop-o : goal.invariant-loop-o
invariant-loop-o l = Heading l.s l.at l.p l.lead.start l.lead.end l.is_led

abbrev pub decreases-loop-o : goal.decreases-loop-o
decreases-loop-o l = length l.s - l.p

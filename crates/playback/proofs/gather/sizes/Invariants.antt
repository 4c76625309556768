use Rattle.playback.specs.Gather.{units_listed}
use Rattle.playback.proofs.GatherLaws.{left, Measuring}
use Rattle.playback.proofs.gather.sizes.Given as goal

abbrev pub invariant-loop-entry : goal.invariant-loop-entry
invariant-loop-entry l = Measuring (units_listed l.listed) (left l.listed l.entry-index) l.bytes

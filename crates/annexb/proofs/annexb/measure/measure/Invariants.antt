use Rattle.std.proofs.Common.{length}
use Rattle.annexb.proofs.MeasureLaws.{UnitsDone, FramesDone, ObusDone}
use Rattle.annexb.proofs.annexb.measure.measure.Given as goal

abbrev pub invariant-loop-left : goal.invariant-loop-left
invariant-loop-left l = UnitsDone l.data l.left l.bytes l.units

abbrev pub decreases-loop-left : goal.decreases-loop-left
decreases-loop-left l = length l.left

abbrev pub invariant-loop-unit : goal.invariant-loop-unit
invariant-loop-unit l = FramesDone l.data l.unit l.behind_unit l.bytes l.units

abbrev pub decreases-loop-unit : goal.decreases-loop-unit
decreases-loop-unit l = length l.unit

abbrev pub invariant-loop-frame : goal.invariant-loop-frame
invariant-loop-frame l = ObusDone l.data l.frame l.behind_frame l.behind_unit l.bytes l.units

abbrev pub decreases-loop-frame : goal.decreases-loop-frame
decreases-loop-frame l = length l.frame

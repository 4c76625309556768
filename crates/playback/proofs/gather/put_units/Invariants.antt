use Rattle.playback.specs.Gather.{units_listed}
use Rattle.playback.proofs.GatherLaws.{left, Putting}
use Rattle.playback.proofs.gather.put_units.Given as goal

abbrev pub invariant-loop-i : goal.invariant-loop-i
invariant-loop-i l = Putting (units_listed l.listed) (left l.listed l.i) l.fn.units l.fn.unit_ends l.at l.i l.units l.unit_ends

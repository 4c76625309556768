use Rattle.std.proofs.Common.{None}
use Rattle.syntax.proofs.RepeatLaws.{Left}
use Rattle.geometry.specs.Size.{found_ref}
use Rattle.geometry.proofs.size.found_ref.Given as goal

abbrev pub invariant-loop-slot : goal.invariant-loop-slot
invariant-loop-slot l = Left (found_ref l.fn.refs) l.s 7 None l.initial.reader.pos l.slot-index None l.reader.pos

use Rattle.std.proofs.Common.{take}
use Rattle.std.specs.List.{flat_map}
use Rattle.protocol.specs.Answers.{Tells}
use Rattle.replay_scan.specs.Scans.{slot_fields}
use Rattle.replay_scan.proofs.scan_fields.put_slots.Given as goal

abbrev pub invariant-loop-slot : goal.invariant-loop-slot
invariant-loop-slot l = Tells l.initial.numbers l.numbers (flat_map slot_fields (take l.slot-index l.slots))

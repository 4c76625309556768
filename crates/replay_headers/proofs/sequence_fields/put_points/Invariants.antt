use Rattle.std.specs.Prelude.{take}
use Rattle.protocol.specs.Answers.{Tells}
use Rattle.replay_headers.specs.Fields.{points_fields}
use Rattle.replay_headers.proofs.sequence_fields.put_points.Given as goal

abbrev pub invariant-loop-point : goal.invariant-loop-point
invariant-loop-point l = Tells l.fn.numbers l.numbers (points_fields (take l.point-index l.points))

use Rattle.std.specs.Prelude.{take}
use Rattle.emit.specs.code.WroteBits.{Wrote}
use Rattle.emittable.specs.PutSequence.{put_points}
use Rattle.emit.proofs.seq_header.payload.Payload.put_points.Given as goal

-- as many operating points were written as turns
abbrev pub invariant-loop-x : goal.invariant-loop-x
invariant-loop-x l = Wrote l.fn.self l.self (put_points l.bounded.opening (take l.x-index l.points))

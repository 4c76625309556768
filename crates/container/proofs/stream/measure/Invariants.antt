use Rattle.std.proofs.Common.{◌≡◌}
use Rattle.container.proofs.StreamTurns.{Sizing}
use Rattle.container.proofs.stream.measure.Given as goal

abbrev pub invariant-loop-x : goal.invariant-loop-x
invariant-loop-x l = (l.x-iterator.bytes.now ≡ l.s) × Sizing l.s l.x-iterator.at l.x-iterator.frames l.bytes l.units

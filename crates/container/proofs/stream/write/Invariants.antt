use Rattle.std.proofs.Common.{◌≡◌}
use Rattle.container.proofs.StreamTurns.{Writing}
use Rattle.container.proofs.stream.write.Given as goal

abbrev pub invariant-loop-x : goal.invariant-loop-x
invariant-loop-x l = (l.x-iterator.bytes.now ≡ l.s) × Writing l.s l.x-iterator.at l.x-iterator.frames l.initial.out l.initial.ends l.w l.u l.out l.ends

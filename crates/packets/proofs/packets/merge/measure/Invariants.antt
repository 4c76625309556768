use Rattle.std.proofs.Common.{◌≡◌}
use Rattle.packets.proofs.PacketMergeLaws.{Measuring}
use Rattle.packets.proofs.packets.merge.measure.Given as goal

abbrev pub invariant-loop-place : goal.invariant-loop-place
invariant-loop-place l = (l.place-iterator.packets ≡ l.packets) × Measuring l.packets.units.bytes.now l.packets.units.ends.now l.packets.times.now l.place-iterator.first l.place-iterator.close l.bytes l.units

use Rattle.std.proofs.Common.{◌≡◌}
use Rattle.std.specs.Iterator.Adapters.{enumerate_source, enumerate_count}
use Rattle.packets.proofs.PacketMergeLaws.{Putting}
use Rattle.packets.proofs.packets.merge.write.Given as goal

abbrev pub invariant-loop-u : goal.invariant-loop-u
invariant-loop-u l =
    ((enumerate_source l.u-iterator).packets ≡ l.packets)
    × Putting l.packets.units.bytes.now l.packets.units.ends.now l.packets.times.now l.initial.out l.initial.out_ends l.initial.out_times (enumerate_source l.u-iterator).first (enumerate_source l.u-iterator).close l.w (enumerate_count l.u-iterator) l.out l.out_ends l.out_times

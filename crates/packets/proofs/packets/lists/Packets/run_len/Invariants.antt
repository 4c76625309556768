use Rattle.std.proofs.Common.{◌≡◌, length}
use Rattle.bitio.specs.Limits.{capped}
use Rattle.container.specs.Lists.{listed}
use Rattle.packets.proofs.PacketRunLaws.{run_bytes}
use Rattle.packets.proofs.packets.lists.Packets.run_len.Given as goal

abbrev pub invariant-loop-i : goal.invariant-loop-i
invariant-loop-i l = l.n ≡ capped (length (run_bytes l.keep (listed l.self.units.bytes.now l.self.units.ends.now) l.a l.i))

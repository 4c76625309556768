use Rattle.bitio.specs.Lent.{Wrote}
use Rattle.container.specs.Lists.{listed}
use Rattle.packets.proofs.PacketRunLaws.{run_bytes}
use Rattle.packets.proofs.packets.lists.Packets.put_run.Given as goal

abbrev pub invariant-loop-i : goal.invariant-loop-i
invariant-loop-i l = Wrote l.initial.out l.to (run_bytes l.keep (listed l.self.units.bytes.now l.self.units.ends.now) l.a l.i) l.w l.out

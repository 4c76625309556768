use Rattle.std.proofs.Common.{arith}
use Rattle.packets.specs.code.PacketRuns.{found, missing}
use Rattle.packets.proofs.PacketListLaws.{full-found}
use Rattle.packets.proofs.packets.lists.Packets.head_of.Goals as goal

pub returns-in-Some : goal.returns-in-Some
returns-in-Some c =
    let x = c.args.self.units in
    let f = full-found x.bytes.now x.ends.now c.args.a c.args.b c.requires.order c.requires.within _ c.in-Some.ensures in
    rw c.unit.ensures (found f.0 f.1)

pub returns-in-None : goal.returns-in-None
returns-in-None c =
    let x = c.args.self.units in
    missing (full-found x.bytes.now x.ends.now c.args.a c.args.b c.requires.order c.requires.within _ c.in-None.ensures) (omega arith)

use Rattle.std.proofs.Common.{sym}
use Rattle.obu.specs.Obu.{obus}
use Rattle.packets.proofs.PacketListLaws.{closes-counted}
use Rattle.packets.proofs.packets.lists.closes.Goals as goal

pub returns-in-Ok : goal.returns-in-Ok
returns-in-Ok c = closes-counted (obus c.args.s.now) _ (sym c.in-Ok.ensures)

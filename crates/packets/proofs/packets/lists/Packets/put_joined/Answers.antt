use Rattle.packets.proofs.PacketPieceLaws.{joined-head, joined-room, joined-wrote}
use Rattle.packets.proofs.packets.lists.Packets.put_joined.Goals as goal

pub lead_of-u-requires : goal.lead_of-u-requires
lead_of-u-requires c = c.requires.joins

pub put_written-next-requires : goal.put_written-next-requires
put_written-next-requires c =
    record {
      os = _;
      range = c.lead_end.ensures;
      room = joined-head c.args.self.units.bytes.now c.args.self.units.ends.now c.args.place.first c.args.place.close c.args.place.stop c.requires.joins _ c.lead_of-u.ensures c.args.out.now c.args.to c.requires.room;
    }

pub put_run-requires : goal.put_run-requires
put_run-requires c =
    joined-room c.args.self.units.bytes.now c.args.self.units.ends.now c.args.place.first c.args.place.close c.args.place.stop c.requires.joins _ c.lead_of-u.ensures c.requires.room
    (c.put_written-next.ensures _ c.lead_end.ensures)

pub returns : goal.returns
returns c =
    joined-wrote c.args.self.units.bytes.now c.args.self.units.ends.now c.args.place.first c.args.place.close c.args.place.stop c.requires.joins _ c.lead_of-u.ensures c.requires.room
    (c.put_written-next.ensures _ c.lead_end.ensures) c.put_run.ensures

use Rattle.std.proofs.Common.{sym}
use Rattle.packets.proofs.PacketOutcomeLaws.{out-full, out-room, out-there, some-closing}
use Rattle.packets.proofs.packets.merge.merge_some.Goals as goal

pub measure-sizes-requires : goal.measure-sizes-requires
measure-sizes-requires c = some-closing c.requires

pub returns-then-not-have_room : goal.returns-then-not-have_room
returns-then-not-have_room c = out-full c.args.packets.units.bytes.now c.args.packets.units.ends.now c.args.packets.times.now c.args.out.now c.args.out_ends.now c.args.out_times.now c.requires.given _ _ c.measure-sizes.ensures (sym c.if-not-have_room.ensures)

pub write-requires : goal.write-requires
write-requires c =
    record {
      measured = some-closing c.requires;
      room = out-room c.args.packets.units.bytes.now c.args.packets.units.ends.now c.args.packets.times.now c.args.out.now c.args.out_ends.now c.args.out_times.now c.requires.given _ _ c.measure-sizes.ensures (sym c.if-not-have_room.ensures);
    }

pub returns : goal.returns
returns c = out-there c.args.packets.units.bytes.now c.args.packets.units.ends.now c.args.packets.times.now c.args.out.now c.args.out_ends.now c.args.out_times.now c.requires.given _ _ c.measure-sizes.ensures (sym c.if-not-have_room.ensures) c.write.ensures

use Rattle.std.proofs.Common.{sym}
use Rattle.playback.proofs.GatherLaws.{gather-full, gather-room, gather-done}
use Rattle.playback.proofs.gather.gather.Goals as goal

pub returns-then-not-have_room : goal.returns-then-not-have_room
returns-then-not-have_room c = gather-full c.args.listed _ _ c.sizes-sizes.ensures (sym c.if-not-have_room.ensures)

pub put_units-requires : goal.put_units-requires
put_units-requires c = gather-room c.args.listed _ _ c.sizes-sizes.ensures (sym c.if-not-have_room.ensures)

pub returns : goal.returns
returns c =
    gather-done c.args.listed _ _ c.sizes-sizes.ensures (sym c.if-not-have_room.ensures) c.put_units.ensures.units_after c.put_units.ensures.unit_ends_after

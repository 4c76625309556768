use Rattle.std.proofs.Common.{arith}
use Rattle.packets.proofs.PacketPieceLaws.{whole_run, lead-short, joined-size}
use Rattle.packets.proofs.packets.lists.Packets.joined_len.Goals as goal

pub written_len-head-requires : goal.written_len-head-requires
written_len-head-requires c = record { short = omega (arith, c.requires.all.short, lead-short c.lead_of-u.ensures); os = _; range = c.lead_end.ensures }

pub run_len-requires : goal.run_len-requires
run_len-requires c = whole_run c.requires.all c.requires.mid

pub returns : goal.returns
returns c =
    joined-size c.args.self.units.bytes.now c.args.self.units.ends.now c.args.place.first c.args.place.close c.args.place.stop c.requires _ c.lead_of-u.ensures
    (c.written_len-head.ensures _ c.lead_end.ensures)
    c.run_len.ensures c.saturating_add.ensures

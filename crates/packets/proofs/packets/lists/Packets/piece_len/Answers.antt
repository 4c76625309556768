use Rattle.std.proofs.Common.{arith, sym, ap, ◌∙◌, length}
use Rattle.packets.specs.code.PacketRuns.{parses_unit}
use Rattle.packets.proofs.PacketPieceLaws.{parses-is, parses-not, front-run, back-run, apart-size}
use Rattle.packets.proofs.packets.lists.Packets.piece_len.Goals as goal

pub joined_len-requires : goal.joined_len-requires
joined_len-requires c = record { all = c.requires; mid = parses-is _ (ap parses_unit (sym c.unit-u.ensures) ∙ sym c.if-parses.ensures) }

pub run_len-requires : goal.run_len-requires
run_len-requires c = front-run c.requires

pub overflow_add-place : goal.overflow_add-place
overflow_add-place c = let p = c.requires in omega (arith, p.after, p.within)

pub run_len-requires-2 : goal.run_len-requires-2
run_len-requires-2 c = back-run c.requires

pub returns : goal.returns
returns c =
    let n = parses-not _ (ap parses_unit (sym c.unit-u.ensures) ∙ sym c.if-parses.ensures) in
    apart-size c.args.self.units.bytes.now c.args.self.units.ends.now c.args.place.first c.args.place.close c.args.place.stop c.requires n.0 n.1 c.run_len.ensures (ap length c.unit-u.ensures) c.saturating_add-front.ensures c.run_len-2.ensures c.saturating_add.ensures

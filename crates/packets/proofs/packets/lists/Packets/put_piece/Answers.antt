use Rattle.std.proofs.Common.{arith, sym, ap, ◌∙◌, length}
use Rattle.packets.specs.code.PacketRuns.{parses_unit}
use Rattle.packets.proofs.PacketPieceLaws.{parses-is, parses-not, wrote-copy, apart-front, apart-mid, apart-back, apart-wrote}
use Rattle.packets.proofs.packets.lists.Packets.put_piece.Goals as goal

pub put_joined-requires : goal.put_joined-requires
put_joined-requires c =
    record { joins = record { all = c.requires.all; mid = parses-is _ (ap parses_unit (sym c.unit-u.ensures) ∙ sym c.if-parses.ensures) }; room = c.requires.room }

pub put_run-mid-requires : goal.put_run-mid-requires
put_run-mid-requires c =
    let n = parses-not _ (ap parses_unit (sym c.unit-u.ensures) ∙ sym c.if-parses.ensures) in
    apart-front c.args.self.units.bytes.now c.args.self.units.ends.now c.args.place.first c.args.place.close c.args.place.stop c.requires.all n.0 n.1 c.requires.room

pub put_bytes-next-requires : goal.put_bytes-next-requires
put_bytes-next-requires c =
    let n = parses-not _ (ap parses_unit (sym c.unit-u.ensures) ∙ sym c.if-parses.ensures) in
    omega (arith, apart-mid c.args.self.units.bytes.now c.args.self.units.ends.now c.args.place.first c.args.place.close c.args.place.stop c.requires.all n.0 n.1 c.requires.room c.put_run-mid.ensures, ap length c.unit-u.ensures)

pub overflow_add-place : goal.overflow_add-place
overflow_add-place c = let p = c.requires.all in omega (arith, p.after, p.within)

pub put_run-requires : goal.put_run-requires
put_run-requires c =
    let n = parses-not _ (ap parses_unit (sym c.unit-u.ensures) ∙ sym c.if-parses.ensures) in
    apart-back c.args.self.units.bytes.now c.args.self.units.ends.now c.args.place.first c.args.place.close c.args.place.stop c.requires.all n.0 n.1 c.requires.room c.put_run-mid.ensures
    (wrote-copy c.unit-u.ensures c.put_bytes-next.ensures.0 c.put_bytes-next.ensures.1)

pub returns : goal.returns
returns c =
    let n = parses-not _ (ap parses_unit (sym c.unit-u.ensures) ∙ sym c.if-parses.ensures) in
    apart-wrote c.args.self.units.bytes.now c.args.self.units.ends.now c.args.place.first c.args.place.close c.args.place.stop c.requires.all n.0 n.1 c.requires.room c.put_run-mid.ensures
    (wrote-copy c.unit-u.ensures c.put_bytes-next.ensures.0 c.put_bytes-next.ensures.1) c.put_run.ensures

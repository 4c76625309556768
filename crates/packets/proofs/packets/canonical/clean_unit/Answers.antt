use Rattle.std.proofs.Common.{arith, sym, ◌∷◌, []}
use Rattle.packets.proofs.CanonicalLaws.{parted, clean, clean-length, clean-fits, clean-small, first-roomy, others-roomy, clean-wrote, canon-roomless, canon-there}
use Rattle.packets.proofs.packets.canonical.clean_unit.Goals as goal

pub written_len-first-requires : goal.written_len-first-requires
written_len-first-requires c = let p = parted c.args.unit.now c.requires.1 c.obu_end-mid.ensures in record { short = c.requires.0; os = p.it.o ∷ []; range = p.front }

pub written_len-requires : goal.written_len-requires
written_len-requires c = let p = parted c.args.unit.now c.requires.1 c.obu_end-mid.ensures in record { short = c.requires.0; os = p.it.os; range = p.back }

pub returns-then-not-have_room : goal.returns-then-not-have_room
returns-then-not-have_room c =
    let p = parted c.args.unit.now c.requires.1 c.obu_end-mid.ensures in
    let n = clean-length p c.written_len-first.ensures c.written_len.ensures c.saturating_add-len.ensures in
    let f = clean-fits p c.args.out.now n (sym c.if-not-have_room.ensures) in
    let e = canon-roomless _ _ c.requires.0 (clean p) p.it.same f in
    record { answer = e.0; out = e.1 }

pub put_written-next-requires : goal.put_written-next-requires
put_written-next-requires c =
    let p = parted c.args.unit.now c.requires.1 c.obu_end-mid.ensures in
    let n = clean-length p c.written_len-first.ensures c.written_len.ensures c.saturating_add-len.ensures in
    let f = clean-fits p c.args.out.now n (sym c.if-not-have_room.ensures) in
    first-roomy p c.args.out.now f

pub put_written-requires : goal.put_written-requires
put_written-requires c =
    let p = parted c.args.unit.now c.requires.1 c.obu_end-mid.ensures in
    let n = clean-length p c.written_len-first.ensures c.written_len.ensures c.saturating_add-len.ensures in
    let f = clean-fits p c.args.out.now n (sym c.if-not-have_room.ensures) in
    others-roomy p c.args.out.now f c.put_written-next.ensures

pub returns : goal.returns
returns c =
    let p = parted c.args.unit.now c.requires.1 c.obu_end-mid.ensures in
    let n = clean-length p c.written_len-first.ensures c.written_len.ensures c.saturating_add-len.ensures in
    let f = clean-fits p c.args.out.now n (sym c.if-not-have_room.ensures) in
    let r = clean-small p c.args.out.now f in
    let w = clean-wrote p c.args.out.now f c.put_written-next.ensures c.put_written.ensures in
    let e = canon-there _ c.args.out.now c.requires.0 (clean p) p.it.same r.0 r.1 (omega (arith, w.next)) w.out in
    record { answer = e.0; out = e.1 }

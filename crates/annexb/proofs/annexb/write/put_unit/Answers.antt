use Rattle.std.proofs.Common.{arith, sym, ap, ◌≡◌, ◌∙◌, ℕ, length}
use Rattle.bitio.specs.Leb.{leb_bytes}
use Rattle.bitio.specs.Lent.{Wrote}
use Rattle.container.specs.AnnexB.{inner_bytes}
use mathlib.Core.List.{flat_map}
use Rattle.annexb.specs.code.Join.{framed_length}
use Rattle.annexb.proofs.JoinLaws.{counts-held, counts-refused, unit_size, unit-laid}
use Rattle.annexb.proofs.annexb.write.put_unit.Goals as goal

pub returns-in_default : goal.returns-in_default
returns-in_default c =
    let e = counts-refused c.args.u.now (sym (rw c.in_default.is at c.count_inner.ensures.result_value)) in
    let h = c.requires.obus_room.reads in
    let z : ◌≡◌ {A = ℕ} 0 1 = cc in
    absurd (omega arith)

pub put_leb128-p-requires : goal.put_leb128-p-requires
put_leb128-p-requires c =
    let p = c.requires.obus_room in
    let i = counts-held c.args.u.now p.reads (sym c.in-Ok.ensures.result_value) in
    let s = unit_size p.held ∙ ap (λ n. framed_length (framed_length n)) (sym i) in
    let n = ap (λ n. length (leb_bytes n)) c.framed_len.ensures in
    omega (arith, p.room, s)

pub put_leb128-q-requires : goal.put_leb128-q-requires
put_leb128-q-requires c =
    let p = c.requires.obus_room in
    let i = counts-held c.args.u.now p.reads (sym c.in-Ok.ensures.result_value) in
    let s = unit_size p.held ∙ ap (λ n. framed_length (framed_length n)) (sym i) in
    let n = ap (λ n. length (leb_bytes n)) c.framed_len.ensures in
    omega (arith, p.room, s, c.put_leb128-p.ensures.0, c.put_leb128-p.auto)

pub put_inner_obus-requires : goal.put_inner_obus-requires
put_inner_obus-requires c =
    let p = c.requires.obus_room in
    let i = counts-held c.args.u.now p.reads (sym c.in-Ok.ensures.result_value) in
    let s = unit_size p.held ∙ ap (λ n. framed_length (framed_length n)) (sym i) in
    let n = ap (λ n. length (leb_bytes n)) c.framed_len.ensures in
    record {
      u_len_bound = c.requires.u_len_bound;
      obus_room = record {
        held = p.held;
        reads = p.reads;
        room = omega (arith, p.room, s, i, c.put_leb128-p.ensures.0, c.put_leb128-p.auto, c.put_leb128-q.ensures.0, c.put_leb128-q.auto);
      };
    }

pub returns : goal.returns
returns c =
    let p = c.requires.obus_room in
    let i = counts-held c.args.u.now p.reads (sym c.in-Ok.ensures.result_value) in
    let m = length (flat_map inner_bytes p.held) in
    let n : c.framed_len.result ≡ framed_length m = c.framed_len.ensures ∙ ap framed_length i in
    let a : Wrote c.args.out.now c.args.w (leb_bytes (framed_length m)) c.put_leb128-p.result c.put_leb128-p.new.out =
    rw (← n) (record { next = c.put_leb128-p.ensures.0; out = c.put_leb128-p.ensures.1 }) in
    let b : Wrote c.put_leb128-p.new.out c.put_leb128-p.result (leb_bytes m) c.put_leb128-q.result c.put_leb128-q.new.out =
    rw (← i) (record { next = c.put_leb128-q.ensures.0; out = c.put_leb128-q.ensures.1 }) in
    rw p.reads (unit-laid (omega (arith, p.room)) p.held a b (rw p.reads at c.put_inner_obus.ensures))

use Rattle.std.proofs.Common.{arith, ap, ◌≡◌, length}
use Rattle.bitio.specs.Leb.{leb_bytes}
use Rattle.bitio.specs.Lent.{Wrote}
use Rattle.obu.specs.Place.{extension_says, part}
use Rattle.obu.proofs.ObuLaws.{passes-small}
use Rattle.obu.proofs.PlaceLaws.{part-short}
use Rattle.annexb.specs.code.Join.{inner_length}
use Rattle.annexb.proofs.JoinLaws.{inner-laid}
use Rattle.annexb.proofs.annexb.write.put_length_obu.Goals as goal

pub inner_len-requires : goal.inner_len-requires
inner_len-requires c = let o = c.args.o in omega (arith, ap length c.payload-payload.ensures, part-short c.args.u.now o.start o.end, c.requires.u_len_bound)

pub put_header-q-requires : goal.put_header-q-requires
put_header-q-requires c =
    let n = ap (λ n. length (leb_bytes n)) (rw c.payload-payload.ensures at c.inner_len.ensures) in
    (passes-small _ c.requires.obu_type_value.0, omega arith, omega (arith, c.requires.obu_type_value.1, c.put_leb128-p.ensures.0, c.put_leb128-p.auto))

pub put_bytes-requires : goal.put_bytes-requires
put_bytes-requires c =
    let n = ap (λ n. length (leb_bytes n)) (rw c.payload-payload.ensures at c.inner_len.ensures) in
    omega (arith, c.requires.obu_type_value.1, ap length c.payload-payload.ensures, c.put_leb128-p.ensures.0, c.put_leb128-p.auto, c.put_header-q.ensures.0, c.put_header-q.auto)

pub returns : goal.returns
returns c =
    let o = c.args.o in
    let x = extension_says o.extension in
    let p = part c.args.u.now o.start o.end in
    let n : c.inner_len.result ≡ inner_length x (length p) = rw c.payload-payload.ensures at c.inner_len.ensures in
    let l : Wrote c.args.out.now c.args.w (leb_bytes (inner_length x (length p))) c.put_leb128-p.result c.put_leb128-p.new.out =
    rw (← n) (record { next = c.put_leb128-p.ensures.0; out = c.put_leb128-p.ensures.1 }) in
    let k = c.put_header-q.ensures in
    let e = rw c.payload-payload.ensures at c.put_bytes.ensures in
    inner-laid (omega (arith, c.requires.obu_type_value.1)) o.obu_type x p l (record { next = omega (arith, k.0); out = k.1 }) (record { next = e.0; out = e.1 })

use Rattle.std.proofs.Common.{arith, sym, ap, ◌∙◌, length}
use Rattle.bitio.specs.Lent.{pasted}
use Rattle.bitio.proofs.LentLaws.{pasted-nil}
use Rattle.obu.specs.Obu.{Obu}
use Rattle.obu.specs.Place.{extension_says, part}
use Rattle.obu.specs.Write.{obu}
use Rattle.obu.proofs.LengthLaws.{obu-length}
use Rattle.container.proofs.RangeLaws.{kept-some, kept-none}
use Rattle.container.proofs.ranges.put_kept.Goals as goal

pub returns-then-not-is_kept : goal.returns-then-not-is_kept
returns-then-not-is_kept c =
    let o = c.args.o in
    let x : Obu = obu o.obu_type (extension_says o.extension) (part c.args.s.now o.start o.end) in
    rw (kept-none c.args.keep x (sym c.if-not-is_kept.ensures)) (record { next = omega arith; out = sym (pasted-nil _ _) })

pub put_measured-requires : goal.put_measured-requires
put_measured-requires c =
    let o = c.args.o in
    let x : Obu = obu o.obu_type (extension_says o.extension) (part c.args.s.now o.start o.end) in
    let e = ap length (kept-some c.args.keep x (sym c.if-not-is_kept.ensures)) ∙ obu-length x in
    rw c.payload.ensures (c.requires.0, omega (arith, c.requires.1))

pub returns : goal.returns
returns c =
    let o = c.args.o in
    let x : Obu = obu o.obu_type (extension_says o.extension) (part c.args.s.now o.start o.end) in
    let w = rw c.payload.ensures at c.put_measured.ensures in
    let e = kept-some c.args.keep x (sym c.if-not-is_kept.ensures) in
    record { next = w.0 ∙ omega (arith, ap length e, obu-length x); out = w.1 ∙ ap (pasted _ _) (sym e) }

use Rattle.std.proofs.Common.{sym}
use Rattle.bitio.proofs.LebLaws.{is_number}
use Rattle.obu.proofs.PlaceLaws.{slice-to-end}
use Rattle.annexb.proofs.PartLaws.{size-other, size-all}
use Rattle.annexb.proofs.annexb.part.sized_obu.Goals as goal

pub returns-then-size-payload : goal.returns-then-size-payload
returns-then-size-payload c =
    size-other _ _ _ (is_number _ _ _ (sym c.in-Some.ensures)).read (rw (slice-to-end c.args.s.now c.in-Some.used) at c.if-size-payload.true)

pub returns : goal.returns
returns c =
    let s = slice-to-end c.args.s.now c.in-Some.used in
    rw s (size-all _ _ _ (is_number _ _ _ (sym c.in-Some.ensures)).read (rw s at c.if-size-payload.false))

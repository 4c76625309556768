use Rattle.std.proofs.Common.{sym}
use Rattle.bitio.proofs.LebLaws.{is_number, is-bad}
use Rattle.obu.proofs.PlaceLaws.{slice-to-end}
use Rattle.annexb.proofs.PartLaws.{part_none, part-over, part-got}
use Rattle.annexb.proofs.annexb.part.part_of.Goals as goal

pub returns-in_default : goal.returns-in_default
returns-in_default c = part_none _ _ _ (is-bad _ (sym c.in_default.ensures))

pub returns-then-size-behind : goal.returns-then-size-behind
returns-then-size-behind c =
    part-over _ _ _ (is_number _ _ _ (sym c.in-Some.ensures)).read (rw (slice-to-end c.args.s.now c.in-Some.used) at c.if-size-behind.true)

pub returns : goal.returns
returns c =
    let e = c.split_at.ensures in
    let s = slice-to-end c.args.s.now c.in-Some.used in
    rw (e.front, e.back, s) (part-got _ _ _ (is_number _ _ _ (sym c.in-Some.ensures)).read (rw (s) at c.if-size-behind.false))

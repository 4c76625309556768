use Rattle.std.proofs.Common.{arith, rules, sym, ◌∙◌}
use native.Mathlib.Nat.{sub-zero}
use Rattle.header.specs.SequencePoints.{point_count}
use Rattle.header.proofs.PointLaws.{fill_more, fill-short, fill_end, fill_start}
use Rattle.header.proofs.seq_header.read_points.read_points.Goals as goal

pub loop-i-init : goal.loop-i-init
loop-i-init c =
    let a = c.args in
    let o = a.bounded.opening in
    rw sub-zero (fill_start (point_count o) a.r.pos a.s.now o (search rules) (omega arith))

pub returns-in_err-point : goal.returns-in_err-point
returns-in_err-point c =
    let l = c.loop-i in
    let e = sym (fill-short _ _ l.points _ l.i l.r.pos (omega arith) _ (sym c.in_err-point.ensures)) ∙ l.invariant in
    search (rules, e)

pub loop-i-preserved : goal.loop-i-preserved
loop-i-preserved c =
    let l = c.loop-i in
    sym (fill_more _ _ l.points _ l.i l.r.pos (omega arith) _ _ (sym c.in_ok-point.ensures)) ∙ l.invariant

pub returns : goal.returns
returns c =
    let l = c.loop-i in
    sym (fill_end _ _ l.points _ l.i l.r.pos (omega arith)) ∙ l.invariant

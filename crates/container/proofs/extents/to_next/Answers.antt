use Rattle.std.proofs.Common.{arith, sym, rules, ◌≡◌}
use Rattle.obu.specs.Place.{obu_place, no_more}
use Rattle.obu.proofs.PlaceLaws.{is-placed, is-end}
use Rattle.container.proofs.RangeLaws.{range-sound}
use Rattle.container.proofs.ExtentTurns.{nexting-start, nexting-delimiter, nexting-frame, nexting-next, nexting-end}
use Rattle.container.proofs.extents.to_next.Goals.{then-is_type-via-then-is_type, then-is_type-via-else-is_type+then-is_type-2}
use Rattle.container.proofs.extents.to_next.Goals as goal

pub loop-o-init : goal.loop-o-init
loop-o-init c = nexting-start c.requires.1

pub returns-then-is_type : goal.returns-then-is_type
returns-then-is_type c =
    let g = is-placed _ _ (sym (rw c.in-Ok-Some.field-0-is at c.in-Ok-Some.ensures)) in
    elim c.then-is_type.branch [
      | then-is_type-via-then-is_type w ↦ nexting-delimiter c.loop-o.invariant g (sym w.if-is_type.ensures)
      | then-is_type-via-else-is_type+then-is_type-2 w ↦ nexting-frame c.loop-o.invariant g (sym w.if-is_type.ensures) (sym w.if-is_type-2.ensures)
    ]

pub loop-o-smaller : goal.loop-o-smaller
loop-o-smaller c =
    let g = (is-placed _ _ (sym (rw c.in-Ok-Some.field-0-is at c.in-Ok-Some.ensures))).placed in
    omega (arith, g.after, g.ends, g.within)

pub loop-o-preserved : goal.loop-o-preserved
loop-o-preserved c = nexting-next c.loop-o.invariant (is-placed _ _ (sym (rw c.in-Ok-Some.field-0-is at c.in-Ok-Some.ensures))) (sym c.if-is_type.ensures) (sym c.if-is_type-2.ensures)

pub returns-in_default : goal.returns-in_default
returns-in_default c =
    let e : obu_place c.args.s.now c.loop-o.p ≡ no_more = search (rules, c.obu_at.ensures) in
    nexting-end c.loop-o.invariant (is-end _ _ e)

pub returns-in_default-2 : goal.returns-in_default-2
returns-in_default-2 c = absurd (range-sound _ c.loop-o.invariant.behind (sym (rw c.in_default.is at c.obu_at.ensures)))

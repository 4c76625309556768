use Rattle.std.proofs.Common.{arith, sym, rules, ◌≡◌}
use Rattle.obu.specs.Place.{obu_place, no_more}
use Rattle.obu.proofs.PlaceLaws.{is-placed, is-end}
use Rattle.container.proofs.RangeLaws.{range-sound}
use Rattle.container.proofs.ExtentTurns.{heading-start, heading-end, heading-frame, heading-taken, heading-led, heading-other}
use Rattle.container.proofs.extents.to_frame.Goals.{else-not-is_led-via-then-not-is_led+else-is_type-2, else-not-is_led-via-else-not-is_led}
use Rattle.container.proofs.extents.to_frame.Goals as goal

pub loop-o-init : goal.loop-o-init
loop-o-init c = heading-start c.requires.1 (omega arith)

pub returns-then-is_type : goal.returns-then-is_type
returns-then-is_type c = heading-frame c.loop-o.invariant (is-placed _ _ (sym (rw c.in-Ok-Some.field-0-is at c.in-Ok-Some.ensures))) (sym c.if-is_type.ensures)

pub loop-o-smaller-then-is_type-2 : goal.loop-o-smaller-then-is_type-2
loop-o-smaller-then-is_type-2 c =
    let g = (is-placed _ _ (sym (rw c.in-Ok-Some.field-0-is at c.in-Ok-Some.ensures))).placed in
    omega (arith, g.after, g.ends, g.within)

pub loop-o-preserved-then-is_type-2 : goal.loop-o-preserved-then-is_type-2
loop-o-preserved-then-is_type-2 c =
    heading-taken c.loop-o.invariant (is-placed _ _ (sym (rw c.in-Ok-Some.field-0-is at c.in-Ok-Some.ensures))) (sym c.if-is_type.ensures) c.if-not-is_led.true (sym c.if-is_type-2.ensures)

pub loop-o-smaller : goal.loop-o-smaller
loop-o-smaller c =
    let g = (is-placed _ _ (sym (rw c.in-Ok-Some.field-0-is at c.in-Ok-Some.ensures))).placed in
    omega (arith, g.after, g.ends, g.within)

pub loop-o-preserved : goal.loop-o-preserved
loop-o-preserved c =
    let g = is-placed _ _ (sym (rw c.in-Ok-Some.field-0-is at c.in-Ok-Some.ensures)) in
    let n = sym c.if-is_type.ensures in
    elim c.else-not-is_led.branch [
      | else-not-is_led-via-then-not-is_led+else-is_type-2 w ↦ heading-other c.loop-o.invariant g n (sym w.if-is_type-2.ensures)
      | else-not-is_led-via-else-not-is_led w ↦ heading-led c.loop-o.invariant g n w.if-not-is_led.false
    ]

pub returns-in_default : goal.returns-in_default
returns-in_default c =
    let e : obu_place c.args.s.now c.loop-o.p ≡ no_more = search (rules, c.obu_at.ensures) in
    absurd (heading-end c.loop-o.invariant (is-end _ _ e))

pub returns-in_default-2 : goal.returns-in_default-2
returns-in_default-2 c = absurd (range-sound _ c.loop-o.invariant.behind (sym (rw c.in_default.is at c.obu_at.ensures)))

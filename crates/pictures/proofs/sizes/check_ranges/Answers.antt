use Rattle.std.proofs.Common.{true, false, sym, ◌∙◌}
use Rattle.pictures.proofs.RangeLaws.{fits-all, not-whole}
use Rattle.pictures.proofs.sizes.check_ranges.Goals as goal
use Rattle.pictures.proofs.sizes.check_ranges.Goals.{else-is_whole-via-then-is_whole+else-all_within, else-is_whole-via-else-is_whole}

pub returns-then-all_within : goal.returns-then-all_within
returns-then-all_within c =
    fits-all c.args.segments.picture.now c.args.segments.numbers.now (sym c.is_whole.ensures ∙ c.if-is_whole.true) true (sym c.all_within.ensures ∙ c.if-all_within.true)

pub returns-else-is_whole : goal.returns-else-is_whole
returns-else-is_whole c =
    let s = c.args.segments.picture.now in
    let rs = c.args.segments.numbers.now in
    elim c.else-is_whole.branch [
      | else-is_whole-via-then-is_whole+else-all_within w ↦ fits-all s rs (sym c.is_whole.ensures ∙ w.if-is_whole.true) false (sym w.all_within.ensures ∙ w.if-all_within.false)
      | else-is_whole-via-else-is_whole w ↦ not-whole s rs (sym c.is_whole.ensures ∙ w.if-is_whole.false)
    ]

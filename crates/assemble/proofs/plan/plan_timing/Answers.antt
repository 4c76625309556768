use Rattle.std.proofs.Common.{◌∙◌}
use borrow.Author.Rules.{rules}
use Rattle.header.specs.Sequence.{sequence_in}
use Rattle.blocks.specs.Numbers.{head_key}
use Rattle.pictures.specs.code.Rewrite.{obu_in}
use Rattle.assemble.proofs.PlanLaws.{timing-there, timing-new, header-own, never-refused, timed-whole, timed-emits}
use Rattle.assemble.proofs.plan.plan_timing.Goals as goal

pub returns-then-sequence : goal.returns-then-sequence
returns-then-sequence c =
    let a = c.args in
    let s = a.segments.picture.now in
    let rs = a.segments.numbers.now in
    c.plan_pictures.ensures
    ∙ timing-there s rs a.settings (obu_in (head_key s rs) a.obu) (sequence_in a.sequence) _ c.if-sequence.true
    (header-own s rs a.obu c.requires.sequence)

pub returns-in_err-header : goal.returns-in_err-header
returns-in_err-header c =
    let a = c.args in never-refused a.sequence.header a.sequence.operating_points a.settings c.requires.read _ c.in_err-header.ensures

pub plan_renewed-requires : goal.plan_renewed-requires
plan_renewed-requires c =
    let a = c.args in
    timed-emits a.sequence.header a.sequence.operating_points a.settings c.requires.read _ c.in_ok-header.ensures (search rules) (search rules)

pub returns : goal.returns
returns c =
    let a = c.args in
    let s = a.segments.picture.now in
    let rs = a.segments.numbers.now in
    c.plan_renewed.ensures
    ∙ timing-new s rs a.settings (obu_in (head_key s rs) a.obu) (sequence_in a.sequence) _ c.if-sequence.false
    (timed-whole a.sequence.header a.sequence.operating_points a.settings c.requires.read _ c.in_ok-header.ensures)

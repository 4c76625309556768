use Rattle.std.proofs.Common.{arith, rules, sym, ap, add-one, ◌∙◌}
use Rattle.std.specs.Prelude.{Some, None, Ok, Err}
use Rattle.bitio.specs.Parse.{answer}
use Rattle.obu.proofs.PlaceLaws.{walk-stop}
use Rattle.obu.proofs.WalkLaws.{over-start, over-next, given-here, turn}
use Rattle.container.specs.code.Survey.{tally_of}
use Rattle.container.proofs.SurveyLaws.{survey-start, survey-short, survey-fits, survey-next, survey-end}
use Rattle.container.proofs.survey.survey.Goals.{then-is_type, else-is_type}
use Rattle.container.proofs.survey.survey.Goals as goal

pub loop-found-init : goal.loop-found-init
loop-found-init c =
    let e = c.into_iter-found-iterator.ensures.into_iter_gives in
    (over-start {at = 0} (rw e c.new-found-items.ensures), rw (e, c.new-found-items.ensures.1) (survey-start c.requires))

pub returns-in_err-o : goal.returns-in_err-o
returns-in_err-o c =
    let i = c.loop-found.invariant in
    let e = ap (answer tally_of) (walk-stop i.1.walked _ (given-here i.0 (Some (Err c.in_err-o.field-0.0)) c.next.new.self (rw c.in_err-o.was at c.in-Some.ensures.steps))) in
    search (rules, e)

pub returns : goal.returns
returns c =
    let i = c.loop-found.invariant in
    survey-end i.1 (given-here i.0 None c.next.new.self c.in-None.ensures.steps)

pub kept_len-bytes-requires : goal.kept_len-bytes-requires
kept_len-bytes-requires c =
    let i = c.loop-found.invariant in
    survey-short i.1 (turn _ c.next.new.self i.0 (rw c.in_ok-o.was at c.in-Some.ensures.steps))

pub overflow_add-bytes : goal.overflow_add-bytes
overflow_add-bytes c =
    let i = c.loop-found.invariant in
    omega (arith, survey-fits i.1 (turn _ c.next.new.self i.0 (rw c.in_ok-o.was at c.in-Some.ensures.steps)) c.kept_len-bytes.ensures)

pub loop-found-preserved : goal.loop-found-preserved
loop-found-preserved c =
    let i = c.loop-found.invariant in
    let s = rw c.in_ok-o.was at c.in-Some.ensures.steps in
    let g = turn _ c.next.new.self i.0 s in
    let k = c.kept_len-bytes.ensures in (
      over-next i.0 (Some (Ok c.in_ok-o.o)) c.next.new.self s,
      rw s.1.1 (elim c.if-is_type.branch [
        | then-is_type w ↦ survey-next i.1 g k (rw (sym w.if-is_type.ensures) (w.frames-is ∙ add-one _))
        | else-is_type w ↦ survey-next i.1 g k (rw (sym w.if-is_type.ensures) w.frames-is)
      ]),
    )

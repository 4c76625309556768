use Rattle.std.proofs.Common.{arith, sym, ◌∙◌}
use borrow.Author.Rules.{rules}
use Rattle.bitio.specs.Refusal.{says}
use Rattle.assemble.proofs.StageLaws.{checked-sound}
use Rattle.assemble.proofs.PlanLaws.{plan_unchecked, plan-unfound, plan-found, found_type}
use Rattle.assemble.proofs.plan.plan_multi.Goals as goal

pub returns-in_err-check_input : goal.returns-in_err-check_input
returns-in_err-check_input c = let a = c.args in let e = plan_unchecked a.segments.picture.now a.segments.numbers.now a.settings _ _ c.in_err-check_input.ensures in search (rules, e)

pub key-requires : goal.key-requires
key-requires c = let a = c.args in omega (arith, (checked-sound a.segments.picture.now a.segments.numbers.now a.settings.gop (sym c.in_ok-check_input.ensures)).some-there)

pub invariant_of-some : goal.invariant_of-some
invariant_of-some c = let a = c.args in record { some = (checked-sound a.segments.picture.now a.segments.numbers.now a.settings.gop (sym c.in_ok-check_input.ensures)).some-there }

pub returns-in_err-obu : goal.returns-in_err-obu
returns-in_err-obu c =
    let a = c.args in
    let e = plan-unfound a.segments.picture.now a.segments.numbers.now a.settings c.in_ok-check_input.ensures _ c.key.ensures (says c.first_sequence.result) c.first_sequence.ensures _ _ c.in_err-obu.ensures in
    search (rules, e)

pub plan_header-requires : goal.plan_header-requires
plan_header-requires c =
    let a = c.args in
    found_type a.segments.picture.now a.segments.numbers.now a.settings c.in_ok-check_input.ensures _ c.key.ensures (says c.first_sequence.result) c.first_sequence.ensures c.in_ok-obu.obu c.in_ok-obu.ensures

pub returns : goal.returns
returns c =
    let a = c.args in
    c.plan_header.ensures
    ∙ plan-found a.segments.picture.now a.segments.numbers.now a.settings c.in_ok-check_input.ensures _ c.key.ensures (says c.first_sequence.result) c.first_sequence.ensures c.in_ok-obu.obu c.in_ok-obu.ensures

use Rattle.std.proofs.Common.{List, ℕ, ap, ◌∙◌}
use mathlib.Core.Option.{Option}
use borrow.Author.Rules.{rules}
use Rattle.header.specs.Sequence.{sequence_in}
use Rattle.pictures.specs.Flat.{all_segments, measured}
use Rattle.assemble.specs.code.Stages.{header_in}
use Rattle.assemble.proofs.PlanLaws.{pictures-refused, pictures-made}
use Rattle.assemble.proofs.plan.plan_pictures.Goals as goal

pub returns-in_err-bytes : goal.returns-in_err-bytes
returns-in_err-bytes c =
    let a = c.args in
    let s = a.segments.picture.now in
    let rs = a.segments.numbers.now in
    let q = sequence_in a.sequence in
    let e =
    pictures-refused s rs q _ (header_in s rs a.headers) _ _
    (c.in_err-bytes.ensures ∙ ap (λ (new : Option (List ℕ)). measured q new (all_segments s rs)) c.renewal.ensures) in
    search (rules, e)

pub returns : goal.returns
returns c =
    let a = c.args in
    let s = a.segments.picture.now in
    let rs = a.segments.numbers.now in
    let q = sequence_in a.sequence in
    pictures-made s rs q _ _ _
    (c.in_ok-bytes.ensures ∙ ap (λ (new : Option (List ℕ)). measured q new (all_segments s rs)) c.renewal.ensures)

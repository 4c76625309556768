use Rattle.std.proofs.Common.{◌∙◌}
use Rattle.std.proofs.lemmas.List.{nil_from_length}
use Rattle.std.proofs.lemmas.Option.{MatchOption-at_none}
use Rattle.container.specs.AnnexB.{inner_obu_of}
use Rattle.annexb.proofs.PartLaws.{inner-forbidden, inner-plain, inner-ext}
use Rattle.annexb.proofs.annexb.part.inner_obu.Goals as goal

pub returns-in_default : goal.returns-in_default
unfolding inner_obu_of
returns-in_default c = rw (nil_from_length c.args.s.now (MatchOption-at_none _ _ c.in_default.is c.split_first.ensures.cases))

pub returns-then-h-eq1 : goal.returns-then-h-eq1
returns-then-h-eq1 c = rw c.in-Some.ensures.cases.0 (inner-forbidden _ _ c.if-h-eq1.true)

pub returns-then-h-ne1 : goal.returns-then-h-ne1
returns-then-h-ne1 c = rw c.in-Some.ensures.cases.0 (c.typed_obu.ensures ∙ inner-plain _ _ c.if-h-eq1.false c.if-h-ne1.true)

pub returns-in_default-split_first : goal.returns-in_default-split_first
returns-in_default-split_first c =
    let n = nil_from_length c.in-Some.behind.now (MatchOption-at_none _ _ c.in_default-split_first.is c.split_first-2.ensures.cases) in
    rw (c.in-Some.ensures.cases.0, n) (inner-ext _ _ c.if-h-eq1.false c.if-h-ne1.false)

pub returns : goal.returns
returns c =
    let n = c.in-Some-split_first.ensures.cases.0 in
    rw (c.in-Some.ensures.cases.0, n) (c.typed_obu-2.ensures ∙ inner-ext _ _ c.if-h-eq1.false c.if-h-ne1.false)

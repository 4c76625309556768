use Rattle.std.proofs.Common.{◌∙◌, refl}
use Rattle.pictures.proofs.UnitLaws.{named-picture, named-show, named_none}
use Rattle.assemble.proofs.unit.unit.Goals as goal

pub returns-then-kind-lt2 : goal.returns-then-kind-lt2
returns-then-kind-lt2 c =
    let a = c.args in
    c.part_in.ensures ∙ named-picture a.pictures.now a.ends.now a.shows.now a.entry _ _ c.if-kind-lt2.true refl refl

pub returns-then-kind-eq2 : goal.returns-then-kind-eq2
returns-then-kind-eq2 c =
    let a = c.args in
    c.payload.ensures ∙ named-show a.pictures.now a.ends.now a.shows.now a.entry c.if-kind-lt2.false c.if-kind-eq2.true

pub returns : goal.returns
returns c =
    let a = c.args in
    named_none a.pictures.now a.ends.now a.shows.now a.entry c.if-kind-lt2.false c.if-kind-eq2.false

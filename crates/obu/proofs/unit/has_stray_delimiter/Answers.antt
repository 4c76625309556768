use Rattle.std.proofs.Common.{sym, ap, ◌∙◌}
use Rattle.obu.specs.Unit.{is_type}
use Rattle.obu.specs.declared.unit.Kind.TheVariants.{TemporalDelimiter}
use Rattle.obu.proofs.PlaceLaws.{is-placed}
use Rattle.obu.proofs.UnitLaws.{stray-none, stray-wrong, stray-behind, stray-any}
use Rattle.obu.proofs.unit.has_stray_delimiter.Goals as goal

pub returns-in-Ok-Some : goal.returns-in-Ok-Some
returns-in-Ok-Some c =
    let g = is-placed _ _ (sym (rw c.in-Ok-Some.field-0-is at c.in-Ok-Some.ensures)) in
    stray-behind _ g.obu _ _ _ g.placed (sym c.in-Ok.ensures) (ap (is_type TemporalDelimiter) g.type ∙ sym c.if-is_type.ensures)

pub returns-in-Ok-Some-2 : goal.returns-in-Ok-Some-2
returns-in-Ok-Some-2 c =
    let g = is-placed _ _ (sym (rw c.in-Ok-Some.field-0-is at c.in-Ok-Some.ensures)) in
    stray-any _ g.obu _ _ _ g.placed (sym c.in-Ok.ensures) (ap (is_type TemporalDelimiter) g.type ∙ sym c.if-is_type.ensures)

pub returns-in-Ok-None : goal.returns-in-Ok-None
returns-in-Ok-None c = sym (stray-none _ (sym (rw c.in-Ok-None.field-0-is at c.in-Ok-None.ensures)))

pub returns-in-Err : goal.returns-in-Err
returns-in-Err c = sym (stray-wrong _ _ (sym c.in-Err.ensures))

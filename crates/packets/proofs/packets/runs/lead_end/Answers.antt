use Rattle.std.proofs.Common.{sym, ap, rules, ◌∙◌, ◌≡◌}
use Rattle.obu.specs.Place.{obu_place, no_more}
use Rattle.obu.specs.Unit.{is_type}
use Rattle.obu.specs.declared.unit.Kind.TheVariants.{TemporalDelimiter}
use Rattle.obu.proofs.PlaceLaws.{is-placed}
use Rattle.packets.proofs.PacketRunLaws.{lead-end, lead-wrong, lead-some, lead-other}
use Rattle.packets.proofs.packets.runs.lead_end.Goals as goal

pub returns-in-Ok-Some : goal.returns-in-Ok-Some
returns-in-Ok-Some c =
    let g = is-placed _ _ (sym (rw c.in-Ok-Some.field-0-is at c.in-Ok-Some.ensures)) in
    lead-some g.placed (ap (is_type TemporalDelimiter) g.type ∙ sym c.if-is_type.ensures)

pub returns-in_default : goal.returns-in_default
returns-in_default c =
    let g = is-placed _ _ (sym (rw c.in-Ok-Some.field-0-is at c.in-Ok-Some.ensures)) in
    lead-other g.placed (ap (is_type TemporalDelimiter) g.type ∙ sym c.if-is_type.ensures)

pub returns-in_default-2 : goal.returns-in_default-2
returns-in_default-2 c =
    let e : obu_place c.args.s.now 0 ≡ no_more = search (rules, c.obu_at.ensures) in
    lead-end _ e

pub returns-in_default-3 : goal.returns-in_default-3
returns-in_default-3 c = lead-wrong _ (sym (rw c.in_default.is at c.obu_at.ensures))

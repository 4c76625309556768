use Rattle.std.proofs.Common.{ap, ◌∙◌}
use Rattle.obu.specs.Unit.{payload_found, is_kind}
use Rattle.obu.proofs.UnitLaws.{payload-first}
use Rattle.obu.proofs.unit.first_payload.Goals as goal

pub returns : goal.returns
returns c = c.payload_of.ensures ∙ ap payload_found c.find_obu.ensures ∙ payload-first (is_kind _) _

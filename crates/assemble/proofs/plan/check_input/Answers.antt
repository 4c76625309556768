use Rattle.std.proofs.Common.{◌∙◌}
use Rattle.assemble.proofs.PlanLaws.{checked_sizes}
use Rattle.assemble.proofs.plan.check_input.Goals as goal

pub returns : goal.returns
returns c = c.check_sizes.ensures ∙ checked_sizes _ _ c.args.gop c.in_ok-check_limit.ensures c.in_ok-check_ranges.ensures

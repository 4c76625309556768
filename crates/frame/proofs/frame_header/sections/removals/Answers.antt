use Rattle.std.proofs.Common.{rules, sym, ◌≡◌, ◌∙◌}
use Rattle.std.specs.Prelude.{count_by}
use Rattle.frame.specs.Frame.{modelled}
use Rattle.frame.proofs.RemovalLaws.{count_is}
use Rattle.frame.proofs.frame_header.sections.removals.Goals as goal

pub returns : goal.returns
returns c = let e : c.count.result ≡ count_by modelled c.args.points.now = search rules in e ∙ sym (count_is modelled c.args.points.now)

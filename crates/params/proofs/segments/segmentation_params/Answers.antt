use Rattle.std.proofs.Common.{set, refl, rules}
use Rattle.bitio.specs.Fields.{read_flag, flag_or}
use Rattle.syntax.specs.Syntax.{run, done, sub}
use Rattle.syntax.proofs.TurnsLaws.{by_array}
use Rattle.params.specs.Segmentation.{segment, segments, segmentation_params}
use Rattle.params.proofs.segments.segmentation_params.Goals as goal

pub returns : goal.returns
unfolding run read_flag flag_or segments segmentation_params
returns c =
    let z =
    by_array (run segment c.args.s.now) c.args.s.now (λ i kept. sub segment (λ alt-q. done (set kept i alt-q))) (λ i kept p. refl) _ _ _
    (record { same = λ r out e. search rules }) c.array_if.ensures in
    search (rules, z)

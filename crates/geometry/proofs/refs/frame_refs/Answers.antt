use Rattle.std.proofs.Common.{refl, rules}
use Rattle.bitio.specs.Bits.{read_bits}
use Rattle.bitio.specs.Fields.{read_flag, flag_or}
use Rattle.syntax.specs.Syntax.{run}
use Rattle.syntax.proofs.TurnsLaws.{by_array}
use Rattle.geometry.specs.Refs.{ref_frame_idx, frame_refs}
use Rattle.geometry.proofs.refs.frame_refs.Goals as goal

pub returns : goal.returns
unfolding run read_flag flag_or ref_frame_idx frame_refs
returns c =
    let z =
    by_array (λ p. read_bits c.args.s.now p 3) c.args.s.now ref_frame_idx (λ i kept p. refl) _ _ _
    (record { same = λ r out e. search rules }) c.array_if.ensures in
    search (rules, z)

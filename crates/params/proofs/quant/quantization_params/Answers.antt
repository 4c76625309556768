use Rattle.std.proofs.Common.{◌<◌, sym, rules}
use Rattle.bitio.proofs.BitLaws.{read-lt}
use Rattle.params.proofs.quant.quantization_params.Goals as goal

pub returns-then-diff-2-clause-fits : goal.returns-then-diff-2-clause-fits
returns-then-diff-2-clause-fits c =
    let base : c.in_ok-base_q_idx.base_q_idx < 256 = read-lt _ _ _ (sym c.in_ok-base_q_idx.ensures) in
    search rules

pub returns-else-diff-2-clause-fits : goal.returns-else-diff-2-clause-fits
returns-else-diff-2-clause-fits c =
    let base : c.in_ok-base_q_idx.base_q_idx < 256 = read-lt _ _ _ (sym c.in_ok-base_q_idx.ensures) in
    search rules

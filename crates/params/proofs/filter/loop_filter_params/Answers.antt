use Rattle.std.proofs.Common.{true, rules}
use Rattle.bitio.specs.Fields.{read_flag, flag_or}
use Rattle.syntax.specs.Syntax.{run}
use Rattle.syntax.proofs.TurnsLaws.{by_times}
use Rattle.params.specs.Quantization.{read_delta_q}
use Rattle.params.specs.LoopFilter.{loop_filter_params}
use Rattle.params.proofs.filter.loop_filter_params.Goals as goal

pub returns : goal.returns
unfolding run read_flag flag_or loop_filter_params
returns c =
    let z = by_times (read_delta_q true) c.args.s.now _ _ (record { same = λ r out e. search rules }) c.times.ensures in
    search (rules, z)

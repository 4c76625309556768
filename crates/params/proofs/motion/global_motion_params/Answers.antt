use Rattle.std.proofs.Common.{rules}
use Rattle.syntax.specs.Syntax.{run}
use Rattle.syntax.proofs.TurnsLaws.{by_times}
use Rattle.params.specs.Motion.{motion, global_motion_params}
use Rattle.params.proofs.motion.global_motion_params.Goals as goal

pub returns : goal.returns
unfolding run global_motion_params
returns c =
    let z = by_times (motion c.args.fine) c.args.s.now _ _ (record { same = λ r out e. search rules }) c.times.ensures in
    search (rules, z)

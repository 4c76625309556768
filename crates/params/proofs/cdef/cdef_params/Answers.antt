use Rattle.std.proofs.Common.{rules}
use Rattle.syntax.specs.Syntax.{run}
use Rattle.syntax.proofs.TurnsLaws.{by_times}
use Rattle.params.specs.Cdef.{strengths, cdef_params}
use Rattle.params.proofs.cdef.cdef_params.Goals as goal

pub returns : goal.returns
unfolding run cdef_params
returns c =
    let z = by_times (strengths c.args.color) c.args.s.now _ _ (record { same = λ r out e. search rules }) c.times.ensures in
    search (rules, z)

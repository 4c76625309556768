use Rattle.std.proofs.Common.{arith, rules}
use Rattle.bench.proofs.BoardLaws.{fill_start, fill_end, fill-turn}
use Rattle.bench.proofs.boards.boards_of.Goals as goal

pub loop-i-init : goal.loop-i-init
loop-i-init c = fill_start _ _ (search rules)

pub loop-i-preserved : goal.loop-i-preserved
loop-i-preserved c = fill-turn c.loop-i.invariant (omega arith) c.segment_of.result c.segment_of.ensures

pub returns : goal.returns
returns c = fill_end c.loop-i.invariant (omega arith)

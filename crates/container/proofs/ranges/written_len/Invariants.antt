use Rattle.container.proofs.RangeLaws.{Within, Measuring}
use Rattle.container.proofs.ranges.written_len.Given as goal

abbrev pub invariant-loop-found : goal.invariant-loop-found
invariant-loop-found l = Within l.s l.fn.range.end l.found-iterator × Measuring l.s l.fn.range.start l.fn.range.end l.keep l.found-iterator.at l.n

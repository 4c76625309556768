use Rattle.container.proofs.RangeLaws.{Within, Putting}
use Rattle.container.proofs.ranges.put_written.Given as goal

abbrev pub invariant-loop-found : goal.invariant-loop-found
invariant-loop-found l = Within l.s l.fn.range.end l.found-iterator × Putting l.s l.fn.range.start l.fn.range.end l.keep l.initial.out l.to l.found-iterator.at l.w l.out

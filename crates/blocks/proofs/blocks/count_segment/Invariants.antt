use Rattle.blocks.proofs.CountLaws.{CountingSegment}
use Rattle.blocks.proofs.blocks.count_segment.Given as goal

abbrev pub invariant-loop-b : goal.invariant-loop-b
invariant-loop-b l = CountingSegment l.fn.blocks l.count l.b-iterator

use Rattle.blocks.proofs.LayLaws.{Segmenting}
use Rattle.blocks.proofs.blocks.put_segment.Given as goal

abbrev pub invariant-loop-b : goal.invariant-loop-b
invariant-loop-b l = Segmenting l.fn.list l.fn.cues l.at l.c l.segment l.fn.blocks l.list l.cues l.p l.q l.b-iterator

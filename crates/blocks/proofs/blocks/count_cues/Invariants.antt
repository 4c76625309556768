use Rattle.blocks.proofs.CountLaws.{CountingAll}
use Rattle.blocks.proofs.blocks.count_cues.Given as goal

abbrev pub invariant-loop-i : goal.invariant-loop-i
invariant-loop-i l = CountingAll l.gop l.segments l.i l.n

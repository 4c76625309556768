use Rattle.geometry.proofs.IncrementLaws.{Counting}
use Rattle.geometry.proofs.tiles.increments.Given as goal

abbrev pub invariant-loop-log2 : goal.invariant-loop-log2
invariant-loop-log2 l = Counting l.least l.most l.s l.initial.reader.pos l.log2 l.reader.pos

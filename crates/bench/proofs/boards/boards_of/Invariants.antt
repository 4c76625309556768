use Rattle.bench.proofs.BoardLaws.{Filling}
use Rattle.bench.proofs.boards.boards_of.Given as goal

abbrev pub invariant-loop-i : goal.invariant-loop-i
invariant-loop-i l = Filling l.segments l.boards l.i

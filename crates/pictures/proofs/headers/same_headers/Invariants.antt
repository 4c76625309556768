use Rattle.pictures.proofs.SameLaws.{Agree}
use Rattle.pictures.proofs.headers.same_headers.Given as goal

abbrev pub invariant-loop-i : goal.invariant-loop-i
invariant-loop-i l = Agree l.first l.segments.picture.now l.segments.numbers.now l.i

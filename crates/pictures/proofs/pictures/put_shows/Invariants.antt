use Rattle.header.specs.Sequence.{sequence_in}
use Rattle.pictures.proofs.ShowLaws.{Showing}
use Rattle.pictures.proofs.pictures.put_shows.Given as goal

abbrev pub invariant-loop-i : goal.invariant-loop-i
invariant-loop-i l = Showing (sequence_in l.sequence) l.rewriting l.segments.picture.now l.segments.numbers.now l.fn.shows l.shows l.i

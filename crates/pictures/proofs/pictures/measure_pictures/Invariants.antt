use Rattle.header.specs.Sequence.{sequence_in}
use Rattle.pictures.specs.Flat.{lent}
use Rattle.pictures.proofs.MeasureLaws.{Measuring}
use Rattle.pictures.proofs.pictures.measure_pictures.Given as goal

abbrev pub invariant-loop-i : goal.invariant-loop-i
invariant-loop-i l = Measuring (sequence_in l.sequence) (lent l.renewal) l.segments.picture.now l.segments.numbers.now l.i l.sum

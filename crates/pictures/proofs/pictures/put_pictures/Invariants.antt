use Rattle.pictures.specs.Flat.{lent}
use Rattle.pictures.proofs.PutLaws.{Putting}
use Rattle.pictures.proofs.pictures.put_pictures.Given as goal

abbrev pub invariant-loop-i : goal.invariant-loop-i
invariant-loop-i l = Putting (lent l.renewal) l.segments.picture.now l.segments.numbers.now l.fn.pictures l.fn.ends l.pictures l.ends l.i l.at

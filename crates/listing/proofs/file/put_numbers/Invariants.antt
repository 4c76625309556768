use Rattle.listing.proofs.NumberLaws.{Numbering}
use Rattle.listing.proofs.file.put_numbers.Given as goal

abbrev pub invariant-loop-i : goal.invariant-loop-i
invariant-loop-i l = Numbering l.file l.fn.numbers l.from l.count l.numbers l.i l.start

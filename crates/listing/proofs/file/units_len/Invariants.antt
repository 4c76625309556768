use Rattle.listing.proofs.NumberLaws.{Summing}
use Rattle.listing.proofs.file.units_len.Given as goal

abbrev pub invariant-loop-i : goal.invariant-loop-i
invariant-loop-i l = Summing l.file l.from l.count l.i l.sum

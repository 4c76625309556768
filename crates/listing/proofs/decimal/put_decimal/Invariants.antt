use Rattle.listing.proofs.DecimalLaws.{Digits}
use Rattle.listing.proofs.decimal.put_decimal.Given as goal

abbrev pub invariant-loop-i : goal.invariant-loop-i
invariant-loop-i l = Digits l.fn.out l.at l.v l.out l.i l.x

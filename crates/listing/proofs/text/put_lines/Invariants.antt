use Rattle.listing.proofs.TextLaws.{Lining}
use Rattle.listing.proofs.text.put_lines.Given as goal

abbrev pub invariant-loop-i : goal.invariant-loop-i
invariant-loop-i l = Lining l.units l.fn.out l.at l.out l.i l.to

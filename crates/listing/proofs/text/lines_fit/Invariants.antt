use Rattle.listing.proofs.TextLaws.{Fitting}
use Rattle.listing.proofs.text.lines_fit.Given as goal

abbrev pub invariant-loop-i : goal.invariant-loop-i
invariant-loop-i l = Fitting l.units l.room l.i l.left

use Rattle.container.specs.Lists.{listed}
use Rattle.annexb.proofs.JoinLaws.{Totalling}
use Rattle.annexb.proofs.annexb.count.count_units.Given as goal

abbrev pub invariant-loop-i : goal.invariant-loop-i
invariant-loop-i l = Totalling (listed l.units.bytes.now l.units.ends.now) l.i l.total

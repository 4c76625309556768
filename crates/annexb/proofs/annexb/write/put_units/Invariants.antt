use Rattle.container.specs.Lists.{listed}
use Rattle.annexb.proofs.JoinLaws.{Putted}
use Rattle.annexb.proofs.annexb.write.put_units.Given as goal

abbrev pub invariant-loop-i : goal.invariant-loop-i
invariant-loop-i l = Putted (listed l.units.bytes.now l.units.ends.now) l.initial.out l.i l.out l.w

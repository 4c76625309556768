use Rattle.obu.proofs.WalkLaws.{Over}
use Rattle.annexb.proofs.JoinLaws.{Counting}
use Rattle.annexb.proofs.annexb.count.count_inner.Given as goal

abbrev pub invariant-loop-found : goal.invariant-loop-found
invariant-loop-found l = Over l.u l.found-iterator × Counting l.u l.found-iterator.at l.n

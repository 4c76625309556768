use Rattle.std.proofs.Common.{drop}
use Rattle.obu.specs.Obu.{head_obu}
use Rattle.obu.proofs.WalkLaws.{Over}
use Rattle.container.specs.AnnexB.{inner_bytes}
use Rattle.annexb.proofs.FillLaws.{Walk}
use Rattle.annexb.proofs.annexb.write.put_inner_obus.Given as goal

abbrev pub invariant-loop-found : goal.invariant-loop-found
invariant-loop-found l = Over l.u l.found-iterator × Walk head_obu inner_bytes l.u (drop l.found-iterator.at l.u) l.initial.out l.place l.out l.w

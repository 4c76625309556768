use Rattle.obu.specs.Obu.{obu_bytes}
use Rattle.container.specs.AnnexB.{length_obu}
use Rattle.annexb.proofs.FillLaws.{Walk}
use Rattle.annexb.proofs.annexb.fill.fill_frame.Given as goal

abbrev pub invariant-loop-part : goal.invariant-loop-part
invariant-loop-part l = Walk length_obu obu_bytes l.frame l.part-iterator.rest.now l.initial.out l.place l.out l.w

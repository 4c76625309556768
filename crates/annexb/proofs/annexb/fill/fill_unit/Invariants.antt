use Rattle.obu.specs.Obu.{unit_bytes}
use Rattle.container.specs.AnnexB.{frame_unit}
use Rattle.annexb.proofs.FillLaws.{Walk}
use Rattle.annexb.proofs.annexb.fill.fill_unit.Given as goal

abbrev pub invariant-loop-frame : goal.invariant-loop-frame
invariant-loop-frame l = Walk frame_unit unit_bytes l.unit l.frame-iterator.rest.now l.initial.out l.place l.out l.w

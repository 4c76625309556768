use Rattle.std.proofs.Common.{◌∙◌, ap}
use lib.Dec.{leb}
use Rattle.boardscan.proofs.ScanLaws.{counted_has}
use Rattle.boardscan.proofs.scan.has_header.Goals as goal

pub returns : goal.returns
returns c = ap (leb 1) c.unwrap_or.ensures ∙ counted_has _ _ c.count_obus.ensures

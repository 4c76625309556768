use Rattle.std.proofs.Common.{arith}
use Rattle.listing.proofs.TextLaws.{lining_turn}
use Rattle.listing.proofs.text.put_lines.Goals as goal

pub loop-i-preserved : goal.loop-i-preserved
loop-i-preserved c = lining_turn c.loop-i.invariant (omega arith) c.requires c.put_line-to.ensures

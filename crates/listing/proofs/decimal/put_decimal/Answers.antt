use Rattle.std.proofs.Common.{arith}
use Rattle.listing.proofs.DecimalLaws.{digits_turn}
use Rattle.listing.proofs.decimal.put_decimal.Goals as goal

pub loop-i-preserved : goal.loop-i-preserved
loop-i-preserved c = digits_turn c.loop-i.invariant (omega arith) (omega (arith, c.requires, c.decimal_len.ensures.0))

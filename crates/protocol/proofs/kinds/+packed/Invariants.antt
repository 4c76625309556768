use Rattle.std.proofs.Common.{length}
use Rattle.protocol.proofs.kinds.+packed.Given as goal

abbrev pub decreases-packed : goal.decreases-packed
decreases-packed l = length l.items.now

use Rattle.std.proofs.Common.{arith}
use native.Mathlib.Nat.{mod-add-mod}
use Rattle.bitio.proofs.BitLaws.{shl_one}
use Rattle.params.proofs.skip.OrderHints.relative_dist.Goals as goal

pub returns : goal.returns
returns c = rw (shl_one c.bits-whole.result (omega arith), c.bits-whole.ensures) (mod-add-mod _ _ _)

use Rattle.std.proofs.Common.{arith}
use Rattle.bitio.proofs.WriteLaws.{bit-far}
use Rattle.bitio.proofs.writer.bit_of.Goals as goal

pub returns-else-i-lt64 : goal.returns-else-i-lt64
returns-else-i-lt64 c = bit-far _ _ (omega arith) (omega arith)

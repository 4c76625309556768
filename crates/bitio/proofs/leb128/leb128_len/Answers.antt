use Rattle.std.proofs.Common.{arith, sym}
use Rattle.bitio.proofs.LebLaws.{bytes-bit}
use Rattle.bitio.proofs.leb128.leb128_len.Goals as goal

pub returns : goal.returns
returns c = sym (bytes-bit 9 c.ilog2.result c.args.v (omega arith) (omega arith) (omega arith) (omega arith))

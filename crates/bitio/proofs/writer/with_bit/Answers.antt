use Rattle.std.proofs.Common.{arith}
use Rattle.bitio.proofs.WriteLaws.{with_code, with-fits}
use Rattle.bitio.proofs.writer.with_bit.Goals as goal

pub overflow_cast-result : goal.overflow_cast-result
overflow_cast-result c = let a = c.args in omega (arith, with-fits a.x a.k a.b (omega arith) (omega arith) (omega arith))

pub returns : goal.returns
returns c = with_code _ _ _ (omega arith)

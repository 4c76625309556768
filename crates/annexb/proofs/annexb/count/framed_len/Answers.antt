use Rattle.std.proofs.Common.{arith, ap, length}
use Rattle.bitio.proofs.LebLaws.{bytes-last}
use Rattle.annexb.proofs.JoinLaws.{leb-few}
use Rattle.annexb.proofs.annexb.count.framed_len.Goals as goal

pub overflow_add-result-2 : goal.overflow_add-result-2
overflow_add-result-2 c = omega (arith, (leb-few c.args.n (omega arith)).0)

pub returns-then-n-lt128 : goal.returns-then-n-lt128
returns-then-n-lt128 c = omega (arith, ap length (bytes-last c.args.n c.if-n-lt128.true))

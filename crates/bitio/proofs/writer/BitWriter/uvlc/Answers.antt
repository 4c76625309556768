use Rattle.std.proofs.Common.{arith}
use Rattle.bitio.specs.Write.{uvlc_zeros}
use Rattle.bitio.proofs.UvlcFormLaws.{uvlc-most}
use Rattle.bitio.proofs.writer.BitWriter.uvlc.Goals as goal

pub overflow_mul-log2 : goal.overflow_mul-log2
unfolding uvlc_zeros
overflow_mul-log2 c = omega (arith, uvlc-most c.args.v)

pub overflow_add-log2 : goal.overflow_add-log2
unfolding uvlc_zeros
overflow_add-log2 c = omega (arith, uvlc-most c.args.v)

use Rattle.std.proofs.Common.{arith}
use Rattle.bitio.proofs.UvlcFormLaws.{halvings_of}
use Rattle.bitio.proofs.writer.log2.Goals as goal

pub returns : goal.returns
returns c = halvings_of c.ilog2.result 32 c.args.x (omega arith) (omega arith) (omega arith)

use Rattle.std.proofs.Common.{arith, ◌*◌}
use Rattle.blocks.specs.Numbers.{width}
use Rattle.blocks.proofs.NumberLaws.{record-put}
use Rattle.blocks.proofs.numbers.put_record.Goals as goal

pub returns : goal.returns
returns c = let a = c.args in record-put a.numbers.now (width * a.i) a.segment (omega arith)

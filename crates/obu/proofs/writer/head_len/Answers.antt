use Rattle.std.proofs.Common.{arith}
use Rattle.bitio.proofs.LebLaws.{bytes-length}
use Rattle.obu.specs.Place.{extension_says}
use Rattle.obu.proofs.WriteLaws.{ext-most}
use Rattle.obu.proofs.writer.head_len.Goals as goal

pub overflow_add-result-2 : goal.overflow_add-result-2
overflow_add-result-2 c = omega (arith, ext-most (extension_says c.args.extension), bytes-length c.args.size)

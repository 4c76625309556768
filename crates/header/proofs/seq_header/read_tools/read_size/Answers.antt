use Rattle.std.proofs.Common.{arith, sym}
use Rattle.bitio.proofs.BitLaws.{read-lt}
use Rattle.header.proofs.seq_header.read_tools.read_size.Goals as goal

pub overflow_add-frame_width_bits_minus_1 : goal.overflow_add-frame_width_bits_minus_1
overflow_add-frame_width_bits_minus_1 c = omega (arith, read-lt _ _ _ (sym c.in_ok-frame_width_bits_minus_1.ensures))

pub overflow_add-frame_height_bits_minus_1 : goal.overflow_add-frame_height_bits_minus_1
overflow_add-frame_height_bits_minus_1 c = omega (arith, read-lt _ _ _ (sym c.in_ok-frame_height_bits_minus_1.ensures))

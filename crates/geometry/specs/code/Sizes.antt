-- Bounds on sizes.
use Rattle.std.specs.Prelude.{◌<◌}
use Rattle.header.specs.declared.seq_header.FrameSize.{FrameSize}

-- what a sequence header that was read says of sizes
pub record SizesWithin (l : FrameSize) : Type 0 where
  pub width-bits : l.frame_width_bits_minus_1 < 16
  pub height-bits : l.frame_height_bits_minus_1 < 16
  pub width : l.max_frame_width_minus_1 < 65536
  pub height : l.max_frame_height_minus_1 < 65536

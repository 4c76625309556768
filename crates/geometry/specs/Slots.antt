-- AV1 7.20: the state of a reference slot.
use Rattle.std.specs.Prelude.{false}
use Rattle.geometry.specs.declared.size.Size.{Size}
use Rattle.geometry.specs.declared.slots.RefSlot.{RefSlot}

-- the Rust takes the sizes of no frame as 0
abbrev pub no_size : Size
no_size = record { upscaled_width = 0; frame_width = 0; frame_height = 0; render_width = 0; render_height = 0 }

-- a slot that holds no frame
abbrev pub empty_slot : RefSlot
empty_slot =
    record {
      order_hint = 0;
      size = no_size;
      is_key_frame = false;
    }

-- AV1 5.5.1: the operating points.
use Rattle.std.specs.Prelude.{ℕ, zero, suc, ◌+◌, ◌-◌, List, [], ◌∷◌, ◌++◌, false, not, ◌&&◌, ltb, length, replicate}
use Rattle.bitio.specs.Bits.{Reading, reads, and_then, read_bits}
use Rattle.bitio.specs.Fields.{read_or, flag_or}
use Rattle.header.specs.declared.seq_header.Opening.{Opening}
use Rattle.header.specs.declared.seq_header.OperatingPoint.{OperatingPoint}

-- the width of a buffer delay
abbrev pub delay_bits : Opening → ℕ
delay_bits o = o.model.buffer_delay_length_minus_1 + 1

-- AV1 5.5.1: one operating point, with AV1 5.5.5 operating_parameters_info; a reduced header has a level alone
unfoldable pub operating_point : List ℕ → ℕ → Opening → Reading OperatingPoint
operating_point s p o =
    and_then (read_or s p (not o.reduced_still_picture_header) 12 0) (λ idc p.
    and_then (read_bits s p 5) (λ level p.
    and_then (flag_or s p (not o.reduced_still_picture_header && ltb 7 level) false) (λ tier p.
    and_then (flag_or s p o.model.decoder_model_info_present false) (λ model p.
    and_then (read_or s p model (delay_bits o) 0) (λ decoder p.
    and_then (read_or s p model (delay_bits o) 0) (λ encoder p.
    and_then (flag_or s p model false) (λ low p.
    and_then (flag_or s p o.initial_display_delay_present false) (λ present p.
    and_then (read_or s p present 4 0) (λ delay p.
    reads (record {
      idc = idc;
      seq_level_idx = level;
      seq_tier = tier;
      decoder_model_present = model;
      decoder_buffer_delay = decoder;
      encoder_buffer_delay = encoder;
      low_delay_mode = low;
      initial_display_delay_present = present;
      initial_display_delay_minus_1 = delay;
    }) p)))))))))

-- AV1 5.5.1: so many operating points
unfoldable pub operating_points : ℕ → List ℕ → ℕ → Opening → Reading (List OperatingPoint)
operating_points zero s p o = reads [] p
operating_points (suc k) s p o =
    and_then (operating_point s p o) (λ x p.
    and_then (operating_points k s p o) (λ xs p.
    reads (x ∷ xs) p))

-- how many there are
abbrev pub point_count : Opening → ℕ
point_count o = o.operating_points_cnt_minus_1 + 1

-- what stands in the array behind the last operating point
abbrev pub no_point : OperatingPoint
no_point =
    record {
      idc = 0;
      seq_level_idx = 0;
      seq_tier = false;
      decoder_model_present = false;
      decoder_buffer_delay = 0;
      encoder_buffer_delay = 0;
      low_delay_mode = false;
      initial_display_delay_present = false;
      initial_display_delay_minus_1 = 0;
    }

-- up to 32 operating points as an array of 32
unfoldable pub padded : List OperatingPoint → List OperatingPoint
padded xs = xs ++ replicate (32 - length xs) no_point

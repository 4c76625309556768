-- AV1 5.5.1 sequence_header_obu up to the operating points. A reduced header has values without bits.
use Rattle.std.specs.Prelude.{ℕ, List, Bool, false, not, cond as pick, ltb}
use Rattle.bitio.specs.Bits.{Reading, fails, reads, and_then, read_bits}
use Rattle.bitio.specs.Fields.{read_flag, read_or, flag_or, uvlc_or}
use Rattle.header.specs.SequenceRules.{Rules}
use Rattle.header.specs.declared.seq_header.TimingInfo.{TimingInfo}
use Rattle.header.specs.declared.seq_header.DecoderModelInfo.{DecoderModelInfo}
use Rattle.header.specs.declared.seq_header.Opening.{Opening}

-- AV1 5.5.3 timing_info, behind its flag, which is there where full: the header is not reduced
unfoldable pub timing_info : Rules → List ℕ → ℕ → Bool → Reading TimingInfo
timing_info r s p full =
    and_then (flag_or s p full false) (λ present p.
    and_then (read_or s p present 32 0) (λ units p.
    and_then (read_or s p present 32 0) (λ scale p.
    and_then (flag_or s p present false) (λ equal p.
    and_then (uvlc_or r.zeros s p equal) (λ ticks p.
    reads (record {
      timing_info_present = present;
      num_units_in_display_tick = units;
      time_scale = scale;
      equal_picture_interval = equal;
      num_ticks_per_picture_minus_1 = ticks;
    }) p)))))

-- AV1 5.5.4 decoder_model_info, behind its flag, which is there where timing info is
unfoldable pub decoder_model_info : List ℕ → ℕ → Bool → Reading DecoderModelInfo
decoder_model_info s p timed =
    and_then (flag_or s p timed false) (λ present p.
    and_then (read_or s p present 5 0) (λ delay p.
    and_then (read_or s p present 32 0) (λ tick p.
    and_then (read_or s p present 5 0) (λ removal p.
    and_then (read_or s p present 5 0) (λ presentation p.
    reads (record {
      decoder_model_info_present = present;
      buffer_delay_length_minus_1 = delay;
      num_units_in_decoding_tick = tick;
      buffer_removal_time_length_minus_1 = removal;
      frame_presentation_time_length_minus_1 = presentation;
    }) p)))))

-- AV1 5.5.1, up to operating_points_cnt_minus_1; 15: a profile above 2, told after five bits
unfoldable pub opening : Rules → List ℕ → ℕ → Reading Opening
opening r s p =
    and_then (read_bits s p 3) (λ profile p.
    and_then (read_flag s p) (λ still p.
    and_then (read_flag s p) (λ reduced p.
    pick (ltb 2 profile) (fails 15) (
    and_then (timing_info r s p (not reduced)) (λ timing p.
    and_then (decoder_model_info s p timing.timing_info_present) (λ model p.
    and_then (flag_or s p (not reduced) false) (λ delay p.
    and_then (read_or s p (not reduced) 5 0) (λ more p.
    reads (record {
      seq_profile = profile;
      still_picture = still;
      reduced_still_picture_header = reduced;
      timing = timing;
      model = model;
      initial_display_delay_present = delay;
      operating_points_cnt_minus_1 = more;
    }) p))))))))

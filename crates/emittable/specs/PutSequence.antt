-- The bits of a sequence header's fields (AV1 5.5), section by section, before those of what follows.
use Rattle.std.specs.Prelude.{ℕ, ◌+◌, List, [], ◌∷◌, Bool, not, ◌&&◌, eqb, ltb}
use Rattle.emittable.specs.PutFields.{put, put_or, put_flag, put_flag_or, put_uvlc_or}
use Rattle.header.specs.SequencePoints.{delay_bits}
use Rattle.header.specs.SequenceCoding.{range_coded, sampled, sampling_coded}
use Rattle.header.specs.Sequence.{Sequence}
use Rattle.header.specs.declared.seq_header.TimingInfo.{TimingInfo}
use Rattle.header.specs.declared.seq_header.DecoderModelInfo.{DecoderModelInfo}
use Rattle.header.specs.declared.seq_header.Opening.{Opening}
use Rattle.header.specs.declared.seq_header.OperatingPoint.{OperatingPoint}
use Rattle.header.specs.declared.seq_header.FrameSize.{FrameSize}
use Rattle.header.specs.declared.seq_header.FrameIds.{FrameIds}
use Rattle.header.specs.declared.seq_header.Tools.{Tools}
use Rattle.header.specs.declared.seq_header.ScreenTools.{ScreenTools}
use Rattle.header.specs.declared.seq_header.Filters.{Filters}
use Rattle.header.specs.declared.seq_header.ColorDescription.{ColorDescription}
use Rattle.header.specs.declared.seq_header.ColorSampling.{ColorSampling}
use Rattle.header.specs.declared.seq_header.Coding.{Coding}

-- AV1 5.5.3 timing_info
unfoldable pub put_timing : Bool → TimingInfo → List ℕ → List ℕ
put_timing full t l =
    put_flag_or full t.timing_info_present
    (put_or t.timing_info_present 32 t.num_units_in_display_tick
    (put_or t.timing_info_present 32 t.time_scale
    (put_flag_or t.timing_info_present t.equal_picture_interval
    (put_uvlc_or t.equal_picture_interval t.num_ticks_per_picture_minus_1 l))))

-- AV1 5.5.4 decoder_model_info
unfoldable pub put_model : Bool → DecoderModelInfo → List ℕ → List ℕ
put_model timed m l =
    put_flag_or timed m.decoder_model_info_present
    (put_or m.decoder_model_info_present 5 m.buffer_delay_length_minus_1
    (put_or m.decoder_model_info_present 32 m.num_units_in_decoding_tick
    (put_or m.decoder_model_info_present 5 m.buffer_removal_time_length_minus_1
    (put_or m.decoder_model_info_present 5 m.frame_presentation_time_length_minus_1 l))))

-- AV1 5.5.1, up to operating_points_cnt_minus_1
unfoldable pub put_opening : Opening → List ℕ → List ℕ
put_opening o l =
    put 3 o.seq_profile
    (put_flag o.still_picture
    (put_flag o.reduced_still_picture_header
    (put_timing (not o.reduced_still_picture_header) o.timing
    (put_model o.timing.timing_info_present o.model
    (put_flag_or (not o.reduced_still_picture_header) o.initial_display_delay_present
    (put_or (not o.reduced_still_picture_header) 5 o.operating_points_cnt_minus_1 l))))))

-- AV1 5.5.1: one operating point, with AV1 5.5.5 operating_parameters_info
unfoldable pub put_point : Opening → OperatingPoint → List ℕ → List ℕ
put_point o x l =
    put_or (not o.reduced_still_picture_header) 12 x.idc
    (put 5 x.seq_level_idx
    (put_flag_or (not o.reduced_still_picture_header && ltb 7 x.seq_level_idx) x.seq_tier
    (put_flag_or o.model.decoder_model_info_present x.decoder_model_present
    (put_or x.decoder_model_present (delay_bits o) x.decoder_buffer_delay
    (put_or x.decoder_model_present (delay_bits o) x.encoder_buffer_delay
    (put_flag_or x.decoder_model_present x.low_delay_mode
    (put_flag_or o.initial_display_delay_present x.initial_display_delay_present
    (put_or x.initial_display_delay_present 4 x.initial_display_delay_minus_1 l))))))))

unfoldable pub put_points : Opening → List OperatingPoint → List ℕ → List ℕ
put_points o [] l = l
put_points o (x ∷ xs) l = put_point o x (put_points o xs l)

unfoldable pub put_size : FrameSize → List ℕ → List ℕ
put_size z l =
    put 4 z.frame_width_bits_minus_1
    (put 4 z.frame_height_bits_minus_1
    (put (z.frame_width_bits_minus_1 + 1) z.max_frame_width_minus_1
    (put (z.frame_height_bits_minus_1 + 1) z.max_frame_height_minus_1 l)))

unfoldable pub put_ids : Bool → FrameIds → List ℕ → List ℕ
put_ids full i l =
    put_flag_or full i.frame_id_numbers_present
    (put_or i.frame_id_numbers_present 4 i.delta_frame_id_length_minus_2
    (put_or i.frame_id_numbers_present 3 i.additional_frame_id_length_minus_1 l))

unfoldable pub put_tools : Bool → Tools → List ℕ → List ℕ
put_tools full t l =
    put_flag t.use_128x128_superblock
    (put_flag t.enable_filter_intra
    (put_flag t.enable_intra_edge_filter
    (put_flag_or full t.enable_interintra_compound
    (put_flag_or full t.enable_masked_compound
    (put_flag_or full t.enable_warped_motion
    (put_flag_or full t.enable_dual_filter
    (put_flag_or full t.enable_order_hint
    (put_flag_or t.enable_order_hint t.enable_jnt_comp
    (put_flag_or t.enable_order_hint t.enable_ref_frame_mvs l)))))))))

unfoldable pub put_screen : Bool → Bool → ScreenTools → List ℕ → List ℕ
put_screen full hint t l =
    put_flag_or full t.seq_choose_screen_content_tools
    (put_or (full && not t.seq_choose_screen_content_tools) 1 t.seq_force_screen_content_tools
    (put_flag_or (full && ltb 0 t.seq_force_screen_content_tools) t.seq_choose_integer_mv
    (put_or (full && ltb 0 t.seq_force_screen_content_tools && not t.seq_choose_integer_mv) 1 t.seq_force_integer_mv
    (put_or hint 3 t.order_hint_bits_minus_1 l))))

unfoldable pub put_filters : Filters → List ℕ → List ℕ
put_filters f l = put_flag f.enable_superres (put_flag f.enable_cdef (put_flag f.enable_restoration l))

-- AV1 5.5.2 color_config up to the matrix coefficients
unfoldable pub put_color : ℕ → ColorDescription → List ℕ → List ℕ
put_color profile c l =
    put_flag c.high_bitdepth
    (put_flag_or (eqb profile 2 && c.high_bitdepth) c.twelve_bit
    (put_flag_or (not (eqb profile 1)) c.mono_chrome
    (put_flag c.color_description_present
    (put_or c.color_description_present 8 c.color_primaries
    (put_or c.color_description_present 8 c.transfer_characteristics
    (put_or c.color_description_present 8 c.matrix_coefficients l))))))

-- AV1 5.5.2 color_config from color_range on; a monochrome header has separate_uv_delta_q, as the Rust's has
unfoldable pub put_sampling : ℕ → ColorDescription → ColorSampling → List ℕ → List ℕ
put_sampling profile c m l =
    put_flag_or (range_coded c) m.color_range
    (put_flag_or (sampling_coded profile c) m.subsample_x
    (put_flag_or (sampling_coded profile c && m.subsample_x) m.subsample_y
    (put_or (sampled c && m.subsample_x && m.subsample_y) 2 m.chroma_sample_position
    (put_flag m.separate_uv_delta_q l))))

-- AV1 5.5.1 behind the operating points
unfoldable pub put_coding : ℕ → Bool → Coding → List ℕ → List ℕ
put_coding profile full c l =
    put_size c.size
    (put_ids full c.ids
    (put_tools full c.tools
    (put_screen full c.tools.enable_order_hint c.screen
    (put_filters c.filters
    (put_color profile c.color
    (put_sampling profile c.color c.sampling
    (put_flag c.film_grain_params_present l)))))))

-- AV1 5.5.1 sequence_header_obu
unfoldable pub put_sequence : Sequence → List ℕ → List ℕ
put_sequence q l =
    put_opening q.header.opening
    (put_points q.header.opening q.points
    (put_coding q.header.opening.seq_profile (not q.header.opening.reduced_still_picture_header) q.header.coding l))

-- A sequence header's fields as numbers, in the protocol's order.
use Rattle.std.specs.Prelude.{ℕ, ◌+◌, ◌%◌, Bool, not, ◌&&◌, cond as pick}
use mathlib.Core.List.{List, [], ◌∷◌, ◌++◌, flat_map}
use mir.Val.{bool_byte}
use Rattle.header.specs.Sequence.{Sequence}
use Rattle.header.specs.SequenceCoding.{srgb}
use Rattle.header.specs.declared.seq_header.TimingInfo.{TimingInfo}
use Rattle.header.specs.declared.seq_header.DecoderModelInfo.{DecoderModelInfo}
use Rattle.header.specs.declared.seq_header.Opening.{Opening}
use Rattle.header.specs.declared.seq_header.OperatingPoint.{OperatingPoint}
use Rattle.header.specs.declared.seq_header.FrameSize.{FrameSize}
use Rattle.header.specs.declared.seq_header.FrameIds.{FrameIds}
use Rattle.header.specs.declared.seq_header.Tools.{Tools}
use Rattle.header.specs.declared.seq_header.ScreenTools.{ScreenTools}
use Rattle.header.specs.declared.seq_header.Filters.{Filters}
use Rattle.header.specs.declared.seq_header.ColorDescription.{ColorDescription}
use Rattle.header.specs.declared.seq_header.ColorSampling.{ColorSampling}
use Rattle.header.specs.declared.seq_header.Coding.{Coding}

-- ---- before the operating points

abbrev pub timing_fields : TimingInfo → List ℕ
timing_fields x =
    bool_byte x.timing_info_present
    ∷ x.num_units_in_display_tick
    ∷ x.time_scale
    ∷ bool_byte x.equal_picture_interval
    ∷ x.num_ticks_per_picture_minus_1
    ∷ []

abbrev pub model_fields : DecoderModelInfo → List ℕ
model_fields x =
    bool_byte x.decoder_model_info_present
    ∷ x.buffer_delay_length_minus_1
    ∷ x.num_units_in_decoding_tick
    ∷ x.buffer_removal_time_length_minus_1
    ∷ x.frame_presentation_time_length_minus_1
    ∷ []

abbrev pub opening_fields : Opening → List ℕ
opening_fields x =
    (x.seq_profile ∷ bool_byte x.still_picture ∷ bool_byte x.reduced_still_picture_header ∷ [])
    ++ (timing_fields x.timing ++ (model_fields x.model ++ (bool_byte x.initial_display_delay_present ∷ [])))

-- ---- behind them

abbrev pub size_fields : FrameSize → List ℕ
size_fields x =
    x.frame_width_bits_minus_1 ∷ x.frame_height_bits_minus_1 ∷ x.max_frame_width_minus_1 ∷ x.max_frame_height_minus_1 ∷ []

abbrev pub id_fields : FrameIds → List ℕ
id_fields x = bool_byte x.frame_id_numbers_present ∷ x.delta_frame_id_length_minus_2 ∷ x.additional_frame_id_length_minus_1 ∷ []

abbrev pub tool_fields : Tools → List ℕ
tool_fields x =
    bool_byte x.use_128x128_superblock
    ∷ bool_byte x.enable_filter_intra
    ∷ bool_byte x.enable_intra_edge_filter
    ∷ bool_byte x.enable_interintra_compound
    ∷ bool_byte x.enable_masked_compound
    ∷ bool_byte x.enable_warped_motion
    ∷ bool_byte x.enable_dual_filter
    ∷ bool_byte x.enable_order_hint
    ∷ bool_byte x.enable_jnt_comp
    ∷ bool_byte x.enable_ref_frame_mvs
    ∷ []

-- order_hint_bits, 0 without an order hint
abbrev pub hint_bits : ScreenTools → Bool → ℕ
hint_bits x has-hint = pick has-hint (x.order_hint_bits_minus_1 % 8 + 1) 0

abbrev pub screen_fields : ScreenTools → Bool → List ℕ
screen_fields x has-hint =
    bool_byte x.seq_choose_screen_content_tools
    ∷ x.seq_force_screen_content_tools
    ∷ bool_byte x.seq_choose_integer_mv
    ∷ x.seq_force_integer_mv
    ∷ hint_bits x has-hint
    ∷ []

abbrev pub filter_fields : Filters → List ℕ
filter_fields x = bool_byte x.enable_superres ∷ bool_byte x.enable_cdef ∷ bool_byte x.enable_restoration ∷ []

abbrev pub color_fields : ColorDescription → List ℕ
color_fields x =
    bool_byte x.high_bitdepth
    ∷ bool_byte x.twelve_bit
    ∷ bool_byte x.mono_chrome
    ∷ bool_byte x.color_description_present
    ∷ x.color_primaries
    ∷ x.transfer_characteristics
    ∷ x.matrix_coefficients
    ∷ []

-- sRGB implies its color_range, of which the Rust keeps none: 2
abbrev pub range_field : ColorDescription → Bool → ℕ
range_field x range =
    pick (srgb x && not x.mono_chrome) 2 (bool_byte range)

abbrev pub sampling_fields : ColorSampling → ℕ → Bool → List ℕ
sampling_fields x range grain =
    range ∷ bool_byte x.subsample_x ∷ bool_byte x.subsample_y ∷ x.chroma_sample_position ∷ bool_byte x.separate_uv_delta_q ∷ bool_byte grain ∷ []

abbrev pub frame_tool_fields : Coding → List ℕ
frame_tool_fields x =
    size_fields x.size ++ (id_fields x.ids ++ (tool_fields x.tools ++ (screen_fields x.screen x.tools.enable_order_hint ++ filter_fields x.filters)))

abbrev pub coding_fields : Coding → List ℕ
coding_fields x =
    frame_tool_fields x
    ++ (color_fields x.color ++ sampling_fields x.sampling (range_field x.color x.sampling.color_range) x.film_grain_params_present)

-- ---- an operating point, and the whole

abbrev pub point_fields : OperatingPoint → List ℕ
point_fields x =
    x.idc
    ∷ x.seq_level_idx
    ∷ bool_byte x.seq_tier
    ∷ bool_byte x.decoder_model_present
    ∷ x.decoder_buffer_delay
    ∷ x.encoder_buffer_delay
    ∷ bool_byte x.low_delay_mode
    ∷ bool_byte x.initial_display_delay_present
    ∷ x.initial_display_delay_minus_1
    ∷ []

unfoldable pub points_fields : List OperatingPoint → List ℕ
points_fields ps = flat_map point_fields ps

unfoldable pub sequence_fields : Sequence → List ℕ
sequence_fields q = opening_fields q.header.opening ++ (coding_fields q.header.coding ++ points_fields q.points)

-- Fields that some payload reads as, section by section.
use Rattle.std.specs.Prelude.{ℕ, ◌+◌, List, Bool, true, false, not, ◌&&◌, eqb, leb, ltb, length}
use Rattle.std.specs.List.{list_all}
use Rattle.emittable.specs.PutFields.{fits, fits_or, flag_fits_or, uvlc_fits_or}
use Rattle.header.specs.SequenceRules.{ours}
use Rattle.header.specs.SequencePoints.{delay_bits, point_count}
use Rattle.header.specs.SequenceCoding.{select, range_coded, sampled, sampling_coded, subsample_x, subsample_y}
use Rattle.header.specs.Sequence.{Sequence}
use Rattle.header.specs.declared.seq_header.TimingInfo.{TimingInfo}
use Rattle.header.specs.declared.seq_header.DecoderModelInfo.{DecoderModelInfo}
use Rattle.header.specs.declared.seq_header.Opening.{Opening}
use Rattle.header.specs.declared.seq_header.OperatingPoint.{OperatingPoint}
use Rattle.header.specs.declared.seq_header.FrameSize.{FrameSize}
use Rattle.header.specs.declared.seq_header.FrameIds.{FrameIds}
use Rattle.header.specs.declared.seq_header.Tools.{Tools}
use Rattle.header.specs.declared.seq_header.ScreenTools.{ScreenTools}
use Rattle.header.specs.declared.seq_header.ColorDescription.{ColorDescription}
use Rattle.header.specs.declared.seq_header.ColorSampling.{ColorSampling}
use Rattle.header.specs.declared.seq_header.Coding.{Coding}

unfoldable pub timing_fits : Bool → TimingInfo → Bool
timing_fits full t =
    flag_fits_or full false t.timing_info_present
    && fits_or t.timing_info_present 32 0 t.num_units_in_display_tick
    && fits_or t.timing_info_present 32 0 t.time_scale
    && flag_fits_or t.timing_info_present false t.equal_picture_interval
    && uvlc_fits_or t.equal_picture_interval t.num_ticks_per_picture_minus_1

unfoldable pub model_fits : Bool → DecoderModelInfo → Bool
model_fits timed m =
    flag_fits_or timed false m.decoder_model_info_present
    && fits_or m.decoder_model_info_present 5 0 m.buffer_delay_length_minus_1
    && fits_or m.decoder_model_info_present 32 0 m.num_units_in_decoding_tick
    && fits_or m.decoder_model_info_present 5 0 m.buffer_removal_time_length_minus_1
    && fits_or m.decoder_model_info_present 5 0 m.frame_presentation_time_length_minus_1

unfoldable pub opening_fits : Opening → Bool
opening_fits o =
    leb o.seq_profile 2
    && timing_fits (not o.reduced_still_picture_header) o.timing
    && model_fits o.timing.timing_info_present o.model
    && flag_fits_or (not o.reduced_still_picture_header) false o.initial_display_delay_present
    && fits_or (not o.reduced_still_picture_header) 5 0 o.operating_points_cnt_minus_1

unfoldable pub point_fits : Opening → OperatingPoint → Bool
point_fits o x =
    fits_or (not o.reduced_still_picture_header) 12 0 x.idc
    && fits 5 x.seq_level_idx
    && flag_fits_or (not o.reduced_still_picture_header && ltb 7 x.seq_level_idx) false x.seq_tier
    && flag_fits_or o.model.decoder_model_info_present false x.decoder_model_present
    && fits_or x.decoder_model_present (delay_bits o) 0 x.decoder_buffer_delay
    && fits_or x.decoder_model_present (delay_bits o) 0 x.encoder_buffer_delay
    && flag_fits_or x.decoder_model_present false x.low_delay_mode
    && flag_fits_or o.initial_display_delay_present false x.initial_display_delay_present
    && fits_or x.initial_display_delay_present 4 0 x.initial_display_delay_minus_1

unfoldable pub points_fit : Opening → List OperatingPoint → Bool
points_fit o xs = list_all (point_fits o) xs

unfoldable pub size_fits : FrameSize → Bool
size_fits z =
    fits 4 z.frame_width_bits_minus_1
    && fits 4 z.frame_height_bits_minus_1
    && fits (z.frame_width_bits_minus_1 + 1) z.max_frame_width_minus_1
    && fits (z.frame_height_bits_minus_1 + 1) z.max_frame_height_minus_1

unfoldable pub ids_fit : Bool → FrameIds → Bool
ids_fit full i =
    flag_fits_or full false i.frame_id_numbers_present
    && fits_or i.frame_id_numbers_present 4 0 i.delta_frame_id_length_minus_2
    && fits_or i.frame_id_numbers_present 3 0 i.additional_frame_id_length_minus_1

unfoldable pub tools_fit : Bool → Tools → Bool
tools_fit full t =
    flag_fits_or full false t.enable_interintra_compound
    && flag_fits_or full false t.enable_masked_compound
    && flag_fits_or full false t.enable_warped_motion
    && flag_fits_or full false t.enable_dual_filter
    && flag_fits_or full false t.enable_order_hint
    && flag_fits_or t.enable_order_hint false t.enable_jnt_comp
    && flag_fits_or t.enable_order_hint false t.enable_ref_frame_mvs

unfoldable pub screen_fits : Bool → Bool → ScreenTools → Bool
screen_fits full hint t =
    flag_fits_or full false t.seq_choose_screen_content_tools
    && fits_or (full && not t.seq_choose_screen_content_tools) 1 select t.seq_force_screen_content_tools
    && flag_fits_or (full && ltb 0 t.seq_force_screen_content_tools) false t.seq_choose_integer_mv
    && fits_or (full && ltb 0 t.seq_force_screen_content_tools && not t.seq_choose_integer_mv) 1 select t.seq_force_integer_mv
    && fits_or hint 3 0 t.order_hint_bits_minus_1

unfoldable pub color_fits : ℕ → ColorDescription → Bool
color_fits profile c =
    flag_fits_or (eqb profile 2 && c.high_bitdepth) false c.twelve_bit
    && flag_fits_or (not (eqb profile 1)) false c.mono_chrome
    && fits_or c.color_description_present 8 2 c.color_primaries
    && fits_or c.color_description_present 8 2 c.transfer_characteristics
    && fits_or c.color_description_present 8 2 c.matrix_coefficients

unfoldable pub sampling_fits : ℕ → ColorDescription → ColorSampling → Bool
sampling_fits profile c m =
    flag_fits_or (range_coded c) true m.color_range
    && flag_fits_or (sampling_coded profile c) (subsample_x ours profile c) m.subsample_x
    && flag_fits_or (sampling_coded profile c && m.subsample_x) (subsample_y ours profile c) m.subsample_y
    && fits_or (sampled c && m.subsample_x && m.subsample_y) 2 0 m.chroma_sample_position

unfoldable pub coding_fits : ℕ → Bool → Coding → Bool
coding_fits profile full c =
    size_fits c.size
    && ids_fit full c.ids
    && tools_fit full c.tools
    && screen_fits full c.tools.enable_order_hint c.screen
    && color_fits profile c.color
    && sampling_fits profile c.color c.sampling

-- some payload reads as these fields
unfoldable pub emittable : Sequence → Bool
emittable q =
    opening_fits q.header.opening
    && eqb (length q.points) (point_count q.header.opening)
    && points_fit q.header.opening q.points
    && coding_fits q.header.opening.seq_profile (not q.header.opening.reduced_still_picture_header) q.header.coding

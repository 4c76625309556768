-- The rows on the whole frame header, computed.
use Rattle.std.specs.Prelude.{◌≡◌, refl, true}
use Rattle.bitio.specs.Parse.{and_next}
use Rattle.bitio.specs.Limits.{limited}
use Rattle.bitio.specs.Bits.{read_bits, bits_within, bits_at, bit_at}
use Rattle.bitio.specs.Write.{halvings}
use Rattle.bitio.specs.Uvlc.{leading_zeros, uvlc_suffix, uvlc}
use Rattle.obu.specs.Unit.{count}
use Rattle.syntax.specs.Syntax.{run}
use Rattle.syntax.specs.Repeat.{repeat, whilst, times}
use Rattle.syntax.specs.Near.{ns}
use Rattle.bitio.specs.Fields.{read_flag, read_or, flag_or, uvlc_or}
use Rattle.header.specs.SequenceOpening.{timing_info, decoder_model_info, opening}
use Rattle.header.specs.SequencePoints.{operating_point, operating_points}
use Rattle.header.specs.SequenceCoding.{frame_size, frame_ids, coding_tools, screen_tools, filters, color_description, color_sampling, coding}
use Rattle.header.specs.Sequence.{sequence_header, parse_sequence}
use Rattle.frame.specs.Frame.{frame_start, frame_modes, frame_front, buffer_removal, refresh_flags}
use Rattle.frame.specs.Refresh.{refresh}
use Rattle.geometry.specs.Refs.{ref_frame_idx, frame_refs}
use Rattle.geometry.specs.Size as size
use Rattle.geometry.specs.TileLimits.{doublings, limits_for, tile_limits}
use Rattle.geometry.specs.Tiles.{increment, increments, tile_size, tile_sizes, uniform_tiles, explicit_tiles, tile_logs, tile_info}
use Rattle.params.specs.Quantization.{read_delta_q, quantization_params}
use Rattle.params.specs.Segmentation.{feature, segment, segments, segmentation_params}
use Rattle.params.specs.Deltas.{delta_q_params, delta_lf_params}
use Rattle.params.specs.Lossless.{no_delta, coded_lossless}
use Rattle.params.specs.LoopFilter.{loop_filter_params}
use Rattle.params.specs.Cdef.{strengths, cdef_params}
use Rattle.params.specs.Restoration.{lr_params}
use Rattle.params.specs.SkipMode.{is_before, is_after, nearer, forward, skip_mode_allowed, skip_mode_params}
use Rattle.params.specs.Motion.{decode_subexp, read_global_param, gm_params, motion, global_motion_params}
use Rattle.uheader.specs.Shape.{ref_order_hints, motion_modes, frame_shape}
use Rattle.uheader.specs.Tail.{filter_params, motion_params, frame_tail}
use Rattle.uheader.specs.Scan.{scan_front, scan_rest, open_scan, scan_behind, scan_by, scan_header, scan_payloads}
use Rattle.cases.specs.Cases.{check}
use Rattle.cases.specs.ScanRows.{scan_rows}

pub scan_cases : check scan_rows ≡ true
unfolding check and_next limited read_bits bits_within bits_at bit_at halvings leading_zeros uvlc_suffix uvlc run repeat whilst times count ns read_flag read_or flag_or uvlc_or timing_info decoder_model_info opening operating_point operating_points frame_size frame_ids coding_tools screen_tools filters color_description color_sampling coding sequence_header parse_sequence frame_start frame_modes frame_front buffer_removal refresh_flags refresh ref_frame_idx frame_refs size.superres_params size.frame_size size.render_size size.frame_and_render_size size.found_ref size.frame_size_with_refs size.size_by_ref size.frame_geometry doublings limits_for tile_limits increment increments tile_size tile_sizes uniform_tiles explicit_tiles tile_logs tile_info read_delta_q quantization_params feature segment segments segmentation_params delta_q_params delta_lf_params no_delta coded_lossless loop_filter_params strengths cdef_params lr_params is_before is_after nearer forward skip_mode_allowed skip_mode_params decode_subexp read_global_param gm_params motion global_motion_params ref_order_hints motion_modes frame_shape filter_params motion_params frame_tail scan_front scan_rest open_scan scan_behind scan_by scan_header scan_payloads
scan_cases = refl

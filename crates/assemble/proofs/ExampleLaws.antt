-- What assembly hands out for the three lists that specs/Examples has.
use mathlib.Core.Path.{◌≡◌, refl}
use mathlib.Core.List.{[], ◌∷◌, flat_map}
use Rattle.frame.specs.UnitFrame.{frame_payload, unit_frame}
use Rattle.bitio.specs.Parse.{many, many_f, and_next}
use Rattle.bitio.specs.Bits.{bit_at, bits_at, bits_within, read_bits}
use Rattle.bitio.specs.Uvlc.{leading_zeros, uvlc_suffix, uvlc}
use Rattle.bitio.specs.Write.{bits_of, halvings, uvlc_zeros}
use Rattle.bitio.specs.Leb.{leb_read, read_leb, leb_write, leb_bytes, sized, framed}
use Rattle.bitio.specs.Lent.{span}
use Rattle.obu.specs.Obu.{passes, head_obu_of, obus_of, obu_bytes, unit_bytes}
use Rattle.obu.specs.Unit.{is_type, has, last_payload, count, first_payload}
use Rattle.obu.specs.Place.{part}
use Rattle.bitio.specs.Fields.{read_flag, read_or, flag_or, uvlc_or}
use Rattle.header.specs.SequenceOpening.{timing_info, decoder_model_info, opening}
use Rattle.header.specs.SequencePoints.{operating_point, operating_points}
use Rattle.header.specs.SequenceCoding.{frame_size, frame_ids, coding_tools, screen_tools, filters, color_description, color_sampling, coding}
use Rattle.header.specs.Sequence.{sequence_header, parse_sequence}
use Rattle.header.specs.Support.{support, supported_sequence}
use Rattle.header.specs.Timed.{retimed, with_timing}
use Rattle.emittable.specs.PutFields.{put, put_or, put_flag, put_flag_or, put_uvlc_or}
use Rattle.emittable.specs.PutSequence.{put_timing, put_model, put_opening, put_point, put_points, put_size, put_ids, put_tools, put_screen, put_filters, put_color, put_sampling, put_coding, put_sequence}
use Rattle.emit.specs.Emit.{of_bits, pack_n, pack, trailed, sequence_bytes}
use Rattle.syntax.specs.Syntax.{run}
use Rattle.syntax.specs.Repeat.{times}
use Rattle.frame.specs.Frame.{show_existing, frame_start, frame_modes, frame_front, buffer_removal, refresh_flags, frame_info, frame_bits, frame_header, parse_frame}
use Rattle.blocks.specs.Blocks.{blocks, layout, positions, total}
use Rattle.pictures.specs.Segments.{segment_at, segments_from, segments_of}
use Rattle.pictures.specs.Prepare.{first_of, sent, slot_of, prepare}
use Rattle.pictures.specs.Assemble.{made, and_also, in_segment, overall, none_empty, sizes, same_bytes, same_headers, prepare_all, ends_from, output_fits, assembled, assemble}
use Rattle.assemble.specs.Examples.{picture_kg, ranges_kg, room_kg, output_kg, settings_kg, picture_two, ranges_two, picture_timed, ranges_timed, room_two, output_two}

-- ---- what is handed out: of the second and the third, rewritten or copied, the same

pub examples-made
    : (assemble room_kg settings_kg picture_kg (ranges_kg 4 1) ∷ assemble room_two settings_kg picture_two ranges_two ∷ assemble room_two settings_kg picture_timed ranges_timed ∷ [])
    ≡ made output_kg ∷ made output_two ∷ made output_two ∷ []
unfolding many many_f and_next bit_at bits_at bits_within read_bits leading_zeros uvlc_suffix uvlc bits_of halvings uvlc_zeros leb_read read_leb leb_write leb_bytes sized framed passes head_obu_of obus_of obu_bytes unit_bytes is_type has last_payload part span read_flag read_or flag_or uvlc_or timing_info decoder_model_info opening operating_point operating_points frame_size frame_ids coding_tools screen_tools filters color_description color_sampling coding sequence_header parse_sequence support retimed with_timing put put_or put_flag put_flag_or put_uvlc_or put_timing put_model put_opening put_point put_points put_size put_ids put_tools put_screen put_filters put_color put_sampling put_coding put_sequence of_bits pack_n pack trailed sequence_bytes run show_existing frame_start frame_modes frame_front times buffer_removal refresh_flags frame_info frame_bits frame_header parse_frame blocks layout positions total segment_at segments_from segments_of first_of sent unit_frame frame_payload slot_of prepare and_also in_segment overall none_empty sizes supported_sequence same_bytes same_headers prepare_all ends_from output_fits assembled assemble flat_map count first_payload
examples-made = refl

-- The table of cases, those that 01 marks P and more: one check, that every row's two answers are the same.
use Rattle.std.specs.Prelude.{ℕ, ◌≡◌, refl, Bool, true, false, eqb}
use Rattle.std.specs.Cmp.Lexicographic.{pointwise}
use Rattle.std.specs.List.{list_all}
use Rattle.std.specs.Str.{bytes_eq}
use mathlib.Core.List.{List, ◌++◌, flat_map}
use Rattle.frame.specs.UnitFrame.{frame_payload, unit_frame}
use Rattle.bitio.specs.Parse.{Answer, refused, accepted, and_next, many, many_f}
use Rattle.bitio.specs.Leb.{read_leb, leb_read, leb_bytes, leb_write, sized, framed}
use Rattle.obu.specs.Obu.{passes, head_obu_of, obus_of, obu_bytes, unit_bytes}
use Rattle.obu.specs.Unit.{is_type, count, has, last_payload, first_payload}
use Rattle.obu.specs.Place.{part}
use Rattle.container.specs.Stream.{cut, group, others, join, behind, joined, units, stream_units, flat, stream_bytes}
use Rattle.container.specs.AnnexB.{inner_obu_of, length_obu_of, frame_unit_of, temporal_unit_of, annexb_units_of, annexb_unit, annexb_bytes}
use Rattle.container.specs.Container.{read, write}
use Rattle.container.specs.Units.{units_from}
use Rattle.packets.specs.Packets.{behind_p, alone, merge_packets, canonical, canonical_at}
use Rattle.packets.specs.PacketLists.{stamped, packets_at, bytes_of, merged_at}
use Rattle.bitio.specs.Bits.{bit_at, bits_at, bits_within, read_bits}
use Rattle.bitio.specs.Uvlc.{leading_zeros, uvlc_suffix, uvlc}
use Rattle.bitio.specs.Write.{bits_of, halvings, uvlc_zeros}
use Rattle.bitio.specs.Fields.{read_flag, read_or, flag_or, uvlc_or}
use Rattle.header.specs.SequenceOpening.{timing_info, decoder_model_info, opening}
use Rattle.header.specs.SequencePoints.{operating_point, operating_points}
use Rattle.header.specs.SequenceCoding.{frame_size, frame_ids, coding_tools, screen_tools, filters, color_description, color_sampling, coding}
use Rattle.bitio.specs.Limits.{limited}
use Rattle.bitio.specs.Lent.{span, pasted, has_room, lent}
use Rattle.header.specs.Sequence.{sequence_header, parse_sequence}
use Rattle.header.specs.Timed.{retimed, with_timing, timed}
use Rattle.emittable.specs.PutFields.{put, put_or, put_flag, put_flag_or, put_uvlc_or, fits, fits_or, flag_fits_or, uvlc_fits_or}
use Rattle.emittable.specs.PutSequence.{put_timing, put_model, put_opening, put_point, put_points, put_size, put_ids, put_tools, put_screen, put_filters, put_color, put_sampling, put_coding, put_sequence}
use Rattle.emittable.specs.Emittable.{timing_fits, model_fits, opening_fits, point_fits, points_fit, size_fits, ids_fit, tools_fit, screen_fits, color_fits, sampling_fits, coding_fits, emittable}
use Rattle.emit.specs.Emit.{of_bits, pack_n, pack, trailed, sequence_bytes, emitted}
use Rattle.syntax.specs.Syntax.{run}
use Rattle.syntax.specs.Repeat.{times}
use Rattle.frame.specs.Frame.{show_existing, frame_start, frame_modes, frame_front, buffer_removal, refresh_flags, frame_info, frame_bits, frame_header, parse_frame, parse_frame_from}
use Rattle.header.specs.Support.{support, supported_sequence}
use Rattle.blocks.specs.Blocks.{blocks, layout, positions, total}
use Rattle.pictures.specs.Segments.{segment_at, segments_from, segments_of}
use Rattle.pictures.specs.Prepare.{first_of, sent, slot_of, prepare}
use Rattle.pictures.specs.Assemble.{and_also, in_segment, overall, none_empty, sizes, same_bytes, same_headers, prepare_all, ends_from, output_fits, assembled, assemble, named, units_of}
use Rattle.frame.specs.Refresh.{refresh}
use Rattle.player.specs.Player.{keep_as, play}
use Rattle.listing.specs.File.{number_at, units_length, file_numbers_from, is_file, read_into, file_numbers_after}
use Rattle.listing.specs.Decimal.{digits_in, decimal}
use Rattle.listing.specs.Text.{line, lines, listing}
use Rattle.cases.specs.Rows.{Row}
use Rattle.cases.specs.MarkedRows.{marked_rows}
use Rattle.cases.specs.AssemblyRows.{assembly_rows}
use Rattle.cases.specs.BoardlistRows.{boardlist_rows}
use Rattle.protocol.specs.Text.{hex_digit, hex_text, hex_value, hex_bytes, pairs, byte_string, number_from, read_number, decoded_to, decoded_in}
use Rattle.protocol.specs.Room.{number_field, room_prefix}
use Rattle.protocol.specs.Kinds.{kind_of, before_of, split_of}
use Rattle.protocol.specs.Typed.{places_in}
use Rattle.protocol.specs.Fields.{bytes_field, value_of, value_field, field_of, fields_in}
use Rattle.protocol.specs.Printed.{part_text, item_text, next_of, items_text, answer_text}
use Rattle.cases.specs.PacketRows.{packet_rows}
use Rattle.cases.specs.PlayerRows.{player_rows}
use Rattle.cases.specs.LineRows.{line_rows}

abbrev same : Answer (List (List ℕ)) → Answer (List (List ℕ)) → Bool
same (refused j) (refused k) = eqb j k
same (refused j) (accepted v) = false
same (accepted u) (refused k) = false
same (accepted u) (accepted v) = pointwise bytes_eq u v

unfoldable pub check : List Row → Bool
check rs = list_all (λ r. same r.0 r.1) rs

abbrev pub rows : List Row
rows = marked_rows ++ (packet_rows ++ (assembly_rows ++ (boardlist_rows ++ (player_rows ++ line_rows))))

pub cases : check rows ≡ true
unfolding check many many_f read_leb leb_read leb_bytes leb_write sized framed passes head_obu_of obus_of obu_bytes unit_bytes flat_map is_type count cut group others join behind joined units stream_units flat stream_bytes inner_obu_of length_obu_of frame_unit_of temporal_unit_of annexb_units_of annexb_unit annexb_bytes read write bit_at bits_at bits_within read_bits leading_zeros uvlc_suffix uvlc bits_of halvings uvlc_zeros read_flag read_or flag_or uvlc_or timing_info decoder_model_info opening operating_point operating_points frame_size frame_ids coding_tools screen_tools filters color_description color_sampling coding sequence_header parse_sequence limited retimed with_timing timed put put_or put_flag put_flag_or put_uvlc_or fits fits_or flag_fits_or uvlc_fits_or put_timing put_model put_opening put_point put_points put_size put_ids put_tools put_screen put_filters put_color put_sampling put_coding put_sequence timing_fits model_fits opening_fits point_fits points_fit size_fits ids_fit tools_fit screen_fits color_fits sampling_fits coding_fits emittable of_bits pack_n pack trailed sequence_bytes emitted run show_existing frame_start frame_modes frame_front times buffer_removal refresh_flags frame_info frame_bits frame_header parse_frame_from parse_frame and_next has last_payload part span support blocks layout positions total segment_at segments_from segments_of first_of sent unit_frame frame_payload slot_of prepare and_also in_segment overall none_empty sizes supported_sequence same_bytes same_headers prepare_all ends_from output_fits assembled assemble first_payload named units_of number_at units_length file_numbers_from is_file read_into file_numbers_after has_room lent pasted digits_in decimal line lines listing refresh keep_as play units_from merged_at packets_at stamped bytes_of merge_packets alone behind_p canonical_at canonical hex_digit hex_text hex_value hex_bytes pairs byte_string number_from read_number decoded_to decoded_in number_field room_prefix kind_of before_of split_of places_in bytes_field value_of value_field field_of fields_in part_text item_text next_of items_text answer_text
cases = refl

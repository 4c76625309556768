-- AV1 5.9.2 uncompressed_header up to refresh_frame_flags, under a sequence header.
use Rattle.std.specs.Prelude.{ℕ, ◌+◌, ◌*◌, ◌/◌, ◌%◌, ◌^◌, List, Bool, true, not, ◌&&◌, ◌||◌, cond as pick, eqb}
use Rattle.bitio.specs.Parse.{Answer, and_next}
use Rattle.bitio.specs.Bits.{Reading, fails}
use Rattle.obu.specs.Unit.{count}
use Rattle.syntax.specs.Syntax.{Syntax, done, field, refuse, branch, sub, read_over, run}
use Rattle.syntax.specs.Repeat.{times}
use Rattle.bitio.specs.Fields.{answer_of}
use Rattle.header.specs.SequenceCoding.{select}
use Rattle.header.specs.Sequence.{Sequence, parse_sequence}
use Rattle.header.specs.Support.{has_point_info}
use Rattle.header.specs.declared.seq_header.OperatingPoint.{OperatingPoint}
use Rattle.header.specs.declared.seq_header.DecoderModelInfo.{DecoderModelInfo}
use Rattle.header.specs.declared.seq_header.Opening.{Opening}
use Rattle.header.specs.declared.seq_header.Coding.{Coding}
use Rattle.header.specs.declared.seq_header.SequenceHeader.{SequenceHeader}
use Rattle.frame.specs.declared.frame_header.FrameStart.{FrameStart}
use Rattle.frame.specs.declared.frame_header.FrameModes.{FrameModes}
use Rattle.frame.specs.declared.frame_header.FrameFront.{FrameFront}
use Rattle.frame.specs.declared.frame_header.FrameInfo.{FrameInfo}
use Rattle.frame.specs.declared.frame_header.FrameHeaderInfo.{FrameHeaderInfo}
use Rattle.frame.specs.declared.frame_header.FrameHeaderInfo.TheVariants.{Existing, Frame}
use Rattle.frame.specs.FrameType.{FrameType, frame_type_of, is_key, is_intra, is_switch}

-- switch frames and shown keys are error resilient and refresh all slots, without a bit
abbrev pub all_slots : FrameType → Bool → Bool
all_slots type shown = is_switch type || (is_key type && shown)

-- AV1 6.8.2 primary_ref_frame: PRIMARY_REF_NONE
abbrev pub primary_none : ℕ
primary_none = 7

-- ---- which operating points have a buffer removal time in a frame header

-- the Rust's, and 01 follows it: those that have a model, whatever their layers
abbrev pub modelled : OperatingPoint → Bool
modelled x = x.decoder_model_present

-- AV1's own: those whose idc is 0 or has the bits of the OBU's temporal and spatial layer
abbrev pub layered : ℕ → ℕ → OperatingPoint → Bool
layered temporal spatial x =
    x.decoder_model_present
    && (eqb x.idc 0 || (eqb (x.idc / 2 ^ temporal % 2) 1 && eqb (x.idc / 2 ^ (spatial + 8) % 2) 1))

-- how many removal times a frame header has: AV1 reads one for each such point, and nothing is kept of them here
abbrev pub removals : (OperatingPoint → Bool) → Sequence → ℕ
removals has q = count has q.points

-- ---- the sections

-- show_existing_frame: frame_to_show_map_idx; 19: temporal_point_info would follow
unfoldable pub show_existing : Bool → Syntax FrameHeaderInfo
show_existing point_info =
    field true 3 (λ slot.
    refuse point_info 19 (
    done (Existing slot)))

-- the byte that shows a slot again: show_existing_frame 1, frame_to_show_map_idx in three bits, and trailing bits
abbrev pub show_byte : ℕ → ℕ
show_byte slot = 128 + 16 * slot + 8

abbrev pub start_of : FrameType → Bool → Bool → Bool → FrameStart
start_of type shown showable resilient =
    record { frame_type = type; show_frame = shown; showable_frame = showable; error_resilient_mode = resilient }

-- frame_type to error_resilient_mode. A shown frame's temporal_point_info is 19 where strict, else read over
unfoldable pub frame_start : Bool → Opening → Syntax FrameStart
frame_start strict o =
    field true 2 (λ type.
    field true 1 (λ shown.
    refuse (strict && (eqb shown 1 && has_point_info o)) 19 (
    field (eqb shown 1 && has_point_info o) (o.model.frame_presentation_time_length_minus_1 + 1) (λ time.
    field (not (eqb shown 1)) 1 (λ showable.
    field (not (all_slots (frame_type_of type) (eqb shown 1))) 1 (λ resilient.
    done (start_of
    (frame_type_of type)
    (eqb shown 1)
    ((eqb shown 1 && not (is_key (frame_type_of type))) || eqb showable 1)
    (all_slots (frame_type_of type) (eqb shown 1) || eqb resilient 1))))))))

-- where on: the sequence header's word, or the frame's own bit where it leaves that to each frame
abbrev pub chosen : Bool → ℕ → Syntax Bool
chosen on force =
    field (on && eqb force select) 1 (λ v.
    done (on && (eqb force 1 || eqb v 1)))

abbrev pub modes_of : Bool → Bool → Bool → Bool → ℕ → ℕ → FrameModes
modes_of disable tools integer over hint primary =
    record {
      disable_cdf_update = disable;
      allow_screen_content_tools = tools;
      force_integer_mv = integer;
      frame_size_override_flag = over;
      order_hint = hint;
      primary_ref_frame = primary;
    }

-- disable_cdf_update to primary_ref_frame
unfoldable pub frame_modes : Coding → FrameStart → Syntax FrameModes
frame_modes c f =
    field true 1 (λ disable.
    sub (chosen true c.screen.seq_force_screen_content_tools) (λ tools.
    sub (chosen tools c.screen.seq_force_integer_mv) (λ mv.
    field (not (is_switch f.frame_type)) 1 (λ over.
    field c.tools.enable_order_hint (c.screen.order_hint_bits_minus_1 + 1) (λ hint.
    field (not (is_intra f.frame_type) && not f.error_resilient_mode) 3 (λ primary.
    done (modes_of
    (eqb disable 1)
    tools
    (is_intra f.frame_type || mv)
    (is_switch f.frame_type || eqb over 1)
    hint
    (pick (not (is_intra f.frame_type) && not f.error_resilient_mode) primary primary_none))))))))

abbrev pub front_of : FrameStart → FrameModes → FrameFront
front_of f m = record { start = f; modes = m }

-- frame_type to primary_ref_frame
unfoldable pub frame_front : Bool → SequenceHeader → Syntax FrameFront
frame_front strict h =
    sub (frame_start strict h.opening) (λ f.
    sub (frame_modes h.coding f) (λ m.
    done (front_of f m)))

-- buffer_removal_time_present_flag, with decoder model info, and n removal times
unfoldable pub buffer_removal : DecoderModelInfo → ℕ → Syntax (Unit {0})
buffer_removal m n =
    field m.decoder_model_info_present 1 (λ present.
    sub (times (pick (eqb present 1) n 0) (field true (m.buffer_removal_time_length_minus_1 + 1) (λ time. read_over))) (λ last.
    done last))

-- the same, and refresh_frame_flags
unfoldable pub refresh_flags : DecoderModelInfo → ℕ → FrameStart → Syntax ℕ
refresh_flags m n f =
    sub (buffer_removal m n) (λ last.
    field (not (all_slots f.frame_type f.show_frame)) 8 (λ flags.
    done (pick (all_slots f.frame_type f.show_frame) 255 flags)))

abbrev pub info_of : FrameFront → ℕ → FrameInfo
info_of x flags =
    record {
      frame_type = x.start.frame_type;
      show_frame = x.start.show_frame;
      showable_frame = x.start.showable_frame;
      refresh_frame_flags = flags;
      order_hint = x.modes.order_hint;
    }

-- a frame that is not shown again
unfoldable pub frame_info : SequenceHeader → ℕ → Syntax FrameInfo
frame_info h n =
    sub (frame_front true h) (λ x.
    sub (refresh_flags h.opening.model n x.start) (λ flags.
    done (info_of x flags)))

-- show_existing_frame, and what follows
unfoldable pub frame_bits : SequenceHeader → ℕ → Syntax FrameHeaderInfo
frame_bits h n =
    field true 1 (λ existing.
    branch (eqb existing 1)
    (show_existing (has_point_info h.opening))
    (sub (frame_info h n) (λ f. done (Frame f)))
    (λ x. done x))

-- ---- the whole

-- 17 a reduced header, 18 frame ids; then 14 and 19 as met: these are 01's refusals, whichever removal times there are
unfoldable pub frame_header : (OperatingPoint → Bool) → List ℕ → ℕ → Sequence → Reading FrameHeaderInfo
frame_header has s p q =
    pick q.header.opening.reduced_still_picture_header (fails 17) (
    pick q.header.coding.ids.frame_id_numbers_present (fails 18) (
    run (frame_bits q.header (removals has q)) s p))

-- a frame payload under a sequence header
abbrev pub read_frame : Sequence → List ℕ → Reading FrameHeaderInfo
read_frame q f = frame_header modelled f 0 q

-- the same by AV1's own removal times, in an OBU of these layers
abbrev pub spec_frame : ℕ → ℕ → Sequence → List ℕ → Reading FrameHeaderInfo
spec_frame temporal spatial q f = frame_header (layered temporal spatial) f 0 q

-- parse_frame_header_info within the limit, under a header that was read
unfoldable pub parse_frame : Sequence → List ℕ → Answer FrameHeaderInfo
parse_frame q f = answer_of (read_frame q f)

-- the same of the two payloads: first the sequence header is read, with its 14 to 16
unfoldable pub parse_frame_from : List ℕ → List ℕ → Answer FrameHeaderInfo
parse_frame_from s f = and_next (parse_sequence s) (λ q. parse_frame q f)

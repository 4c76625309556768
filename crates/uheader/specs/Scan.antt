-- AV1 5.9.2 uncompressed_header, the whole of it, and what it leaves in the slots (02 §2).
use Rattle.std.specs.Prelude.{ℕ, List, true, false, cond as pick, eqb, replicate}
use Rattle.bitio.specs.Parse.{Answer, refused, accepted, and_next}
use Rattle.bitio.specs.Bits.{Reading, fails, reads, and_then}
use Rattle.bitio.specs.Limits.{limited}
use Rattle.syntax.specs.Syntax.{Syntax, done, field, refuse, sub, run}
use Rattle.syntax.specs.Signed.{su}
use Rattle.bitio.specs.Fields.{answer_of}
use Rattle.header.specs.Sequence.{parse_sequence}
use Rattle.header.specs.declared.seq_header.SequenceHeader.{SequenceHeader}
use Rattle.frame.specs.FrameType.{is_key}
use Rattle.frame.specs.Frame.{modelled, removals, frame_front, info_of}
use Rattle.frame.specs.Refresh.{refresh}
use Rattle.frame.specs.declared.frame_header.FrameFront.{FrameFront}
use Rattle.frame.specs.declared.frame_header.FrameInfo.{FrameInfo}
use Rattle.geometry.specs.Slots.{empty_slot}
use Rattle.geometry.specs.Tiles.{tile_info}
use Rattle.geometry.specs.declared.slots.RefSlot.{RefSlot}
use Rattle.geometry.specs.declared.size.Size.{Size}
use Rattle.params.specs.Lossless.{sign_magnitude}
use Rattle.params.specs.declared.quant.Quantizer.{Quantizer}
use Rattle.uheader.specs.Shape.{frame_shape}
use Rattle.uheader.specs.Tail.{frame_tail}
use Rattle.uheader.specs.declared.shape.Shape.{Shape}
use Rattle.uheader.specs.declared.scan.Rest.{Rest}
use Rattle.uheader.specs.declared.scan.Deltas.{Deltas}
use Rattle.uheader.specs.declared.scan.HeaderScan.{HeaderScan}

-- ---- the header

-- up to primary_ref_frame; 42: show_existing_frame
unfoldable pub scan_front : SequenceHeader → Syntax FrameFront
scan_front h =
    field true 1 (λ existing.
    refuse (eqb existing 1) 42 (
    sub (frame_front false h) (λ x.
    done x)))

abbrev pub rest_of : Shape → Quantizer → Rest
rest_of z q = record { shape = z; quantizer = q }

-- and behind it; 41: short reference signalling
unfoldable pub scan_rest : (ℕ → ℕ → ℕ) → SequenceHeader → ℕ → List RefSlot → FrameFront → Syntax Rest
scan_rest rule h n slots x =
    sub (frame_shape h n slots x) (λ z.
    sub (tile_info z.size h.coding.tools.use_128x128_superblock) (λ last.
    sub (frame_tail rule h.coding x z slots) (λ y.
    done (rest_of z y))))

-- AV1 4.10.6: the deltas as signed numbers
abbrev pub deltas_of : Quantizer → Deltas
deltas_of q =
    record {
      y_dc = su 7 q.delta_q_y_dc;
      u_dc = su 7 q.delta_q_u_dc;
      u_ac = su 7 q.delta_q_u_ac;
      v_dc = su 7 q.delta_q_v_dc;
      v_ac = su 7 q.delta_q_v_ac;
    }

-- the fields, with the position behind primary_ref_frame and the last
abbrev pub scan_of : FrameFront → Rest → ℕ → ℕ → HeaderScan
scan_of x r insert end =
    record {
      removal_insert_pos = insert;
      end_pos = end;
      frame = info_of x r.shape.refresh_frame_flags;
      size = r.shape.size;
      base_q_idx = r.quantizer.base_q_idx;
      deltas = deltas_of r.quantizer;
    }

-- the first part. 02 §2: 17 reduced, 20 film grain, 18 frame ids, in that order; then as met
unfoldable pub open_scan : SequenceHeader → List ℕ → Reading FrameFront
open_scan h f =
    pick h.opening.reduced_still_picture_header (fails 17) (
    pick h.coding.film_grain_params_present (fails 20) (
    pick h.coding.ids.frame_id_numbers_present (fails 18) (
    run (scan_front h) f 0)))

-- and the second, by either rule for CodedLossless, with n removal times
unfoldable pub scan_behind : (ℕ → ℕ → ℕ) → SequenceHeader → ℕ → List RefSlot → List ℕ → FrameFront → ℕ → Reading HeaderScan
scan_behind rule h n slots f x insert =
    and_then (run (scan_rest rule h n slots x) f insert) (λ r end.
    reads (scan_of x r insert end) end)

-- both parts
unfoldable pub scan_by : (ℕ → ℕ → ℕ) → SequenceHeader → ℕ → List RefSlot → List ℕ → Reading HeaderScan
scan_by rule h n slots f = and_then (open_scan h f) (λ x insert. scan_behind rule h n slots f x insert)

-- a frame payload under a sequence header, with n removal times, by the Rust's rule
unfoldable pub scan_header : SequenceHeader → ℕ → List RefSlot → List ℕ → Answer HeaderScan
scan_header h n slots f = answer_of (scan_by sign_magnitude h n slots f)

-- the same of both payloads, with the Rust's removal times, 34 of either first
unfoldable pub scan_payloads : List ℕ → List RefSlot → List ℕ → Answer HeaderScan
scan_payloads s slots f = limited f (limited s (and_next (parse_sequence s) (λ q. scan_header q.header (removals modelled q) slots f)))

-- ---- the slots

abbrev pub empty_slots : List RefSlot
empty_slots = replicate 8 empty_slot

-- what a frame leaves in a slot that it refreshes
abbrev pub ref_slot_of : FrameInfo → Size → RefSlot
ref_slot_of f z = record { order_hint = f.order_hint; size = z; is_key_frame = is_key f.frame_type }

-- 02 §2: a refused scan leaves them as they were
abbrev pub slots_after : List RefSlot → Answer HeaderScan → List RefSlot
slots_after slots (refused k) = slots
slots_after slots (accepted x) = refresh x.frame.refresh_frame_flags (ref_slot_of x.frame x.size) slots

-- The whole frame header (02 §2): frames scanned in turn from empty slots, what each gives, and the slots behind them.
use Rattle.std.specs.Prelude.{ℕ, ◌+◌, List, [], ◌∷◌, ◌++◌, map, ℤ, pos, negsuc, replicate}
use mir.Val.{bool_byte}
use Rattle.bitio.specs.Parse.{Answer, refused, accepted}
use Rattle.frame.specs.FrameType.{type_number}
use Rattle.geometry.specs.declared.slots.RefSlot.{RefSlot}
use Rattle.uheader.specs.Scan.{scan_payloads, slots_after, empty_slots}
use Rattle.uheader.specs.declared.scan.HeaderScan.{HeaderScan}
use Rattle.cases.specs.Rows.{Row}
use Rattle.assemble.specs.Examples.{payload_k}

-- sign and size
abbrev signed : ℤ → List ℕ
signed (pos n) = 0 ∷ n ∷ []
signed (negsuc n) = 1 ∷ (n + 1) ∷ []

-- the fields in replay's order, or the refusal
abbrev numbers : Answer HeaderScan → List ℕ
numbers (refused k) = k ∷ []
numbers (accepted x) =
    x.removal_insert_pos
    ∷ x.end_pos
    ∷ type_number x.frame.frame_type
    ∷ bool_byte x.frame.show_frame
    ∷ bool_byte x.frame.showable_frame
    ∷ x.frame.refresh_frame_flags
    ∷ x.size.frame_width
    ∷ x.size.frame_height
    ∷ x.size.upscaled_width
    ∷ x.size.render_width
    ∷ x.size.render_height
    ∷ x.frame.order_hint
    ∷ x.base_q_idx
    ∷ (signed x.deltas.y_dc ++ (signed x.deltas.u_dc ++ (signed x.deltas.u_ac ++ (signed x.deltas.v_dc ++ signed x.deltas.v_ac))))

abbrev slot_numbers : RefSlot → List ℕ
slot_numbers x =
    x.order_hint
    ∷ x.size.upscaled_width
    ∷ x.size.frame_width
    ∷ x.size.frame_height
    ∷ x.size.render_width
    ∷ x.size.render_height
    ∷ bool_byte x.is_key_frame
    ∷ []

abbrev scans_from : List ℕ → List RefSlot → List (List ℕ) → List (List ℕ)
scans_from s slots [] = map slot_numbers slots
scans_from s slots (f ∷ fs) = numbers (scan_payloads s slots f) ∷ scans_from s (slots_after slots (scan_payloads s slots f)) fs

abbrev scans : List ℕ → List (List ℕ) → Answer (List (List ℕ))
scans s fs = accepted (scans_from s empty_slots fs)

-- ---- frames under K's header, and what they give: 16 by 16, or nothing by nothing, with no delta

abbrev key_frame : List ℕ
key_frame = 0x19 ∷ 0 ∷ 0 ∷ 0xAA ∷ []

-- the first reference has its size
abbrev found_frame : List ℕ
found_frame = 0x33 ∷ 0xC2 ∷ 0 ∷ 0 ∷ 1 ∷ 0x48 ∷ 0 ∷ 0 ∷ 0 ∷ []

-- the same with tile sizes of its own
abbrev tiled_frame : List ℕ
tiled_frame = 0x36 ∷ 2 ∷ 0 ∷ 0 ∷ 1 ∷ 0x40 ∷ 0 ∷ 0 ∷ 0 ∷ 0 ∷ 0 ∷ 0 ∷ []

-- insert, end, type, showable, flags and the side of a shown frame without deltas
abbrev plain : ℕ → ℕ → ℕ → ℕ → ℕ → ℕ → List ℕ
plain insert end type showable flags side =
    insert ∷ end ∷ type ∷ 1 ∷ showable ∷ flags ∷ side ∷ side ∷ side ∷ side ∷ side ∷ 0 ∷ 0 ∷ replicate 10 0

abbrev slot_with : ℕ → ℕ → List ℕ
slot_with side key = 0 ∷ side ∷ side ∷ side ∷ side ∷ side ∷ key ∷ []

-- eight slots, where slot 3 holds another frame than the others
abbrev slots_with : ℕ → ℕ → ℕ → List (List ℕ)
slots_with side key third = replicate 3 (slot_with side key) ++ (slot_with side third ∷ replicate 4 (slot_with side key))

-- K's header with order hints of one bit
abbrev hinted_header : List ℕ
hinted_header = 0 ∷ 0 ∷ 0 ∷ 1 ∷ 0x9F ∷ 0xF8 ∷ 4 ∷ 0 ∷ 0 ∷ 0x80 ∷ []

abbrev pub scan_rows : List Row
scan_rows =
    -- a shown key, an inter frame with a found reference, one with tile sizes of its own; a refused one leaves the slots
    (
      scans payload_k (key_frame ∷ found_frame ∷ tiled_frame ∷ (0x88 ∷ []) ∷ []),
      accepted (plain 6 22 0 0 255 16 ∷ plain 10 67 1 1 8 16 ∷ plain 10 66 1 1 8 16 ∷ (42 ∷ []) ∷ slots_with 16 1 0),
    )
    -- lossless by the Rust, though the delta of Y DC is -64
    ∷ (
      scans payload_k ((0x10 ∷ 0x80 ∷ 0x60 ∷ 0 ∷ 0 ∷ 0 ∷ 0 ∷ 0 ∷ []) ∷ []),
      accepted ((6 ∷ 30 ∷ 0 ∷ 1 ∷ 0 ∷ 255 ∷ 16 ∷ 16 ∷ 16 ∷ 16 ∷ 16 ∷ 0 ∷ 0 ∷ 1 ∷ 64 ∷ replicate 8 0) ∷ slots_with 16 1 1),
    )
    -- from empty slots the reference found has no size; with tile sizes of its own the frame is refused
    ∷ (scans payload_k (found_frame ∷ tiled_frame ∷ []), accepted (plain 10 67 1 1 8 0 ∷ (14 ∷ []) ∷ slots_with 0 0 0))
    -- with order hints: references named in short, and bits that end among them
    ∷ (scans hinted_header ((0x30 ∷ 0x01 ∷ 0x10 ∷ 0 ∷ []) ∷ (0x30 ∷ 0x01 ∷ 0x10 ∷ []) ∷ []), accepted ((41 ∷ []) ∷ (14 ∷ []) ∷ slots_with 0 0 0))
    -- bits run out; nothing was scanned
    ∷ (scans payload_k ((0x19 ∷ 0 ∷ []) ∷ []), accepted ((14 ∷ []) ∷ slots_with 0 0 0))
    ∷ (scans payload_k [], accepted (slots_with 0 0 0))
    -- the sequence header: cut, reduced, film grain, film grain and frame ids, frame ids
    ∷ (scans [] (key_frame ∷ []), accepted ((14 ∷ []) ∷ slots_with 0 0 0))
    ∷ (scans (0x18 ∷ 0x0C ∷ 0xFF ∷ 0xC0 ∷ 0x44 ∷ []) (key_frame ∷ []), accepted ((17 ∷ []) ∷ slots_with 0 0 0))
    ∷ (scans (0 ∷ 0 ∷ 0 ∷ 1 ∷ 0x9F ∷ 0xF8 ∷ 0 ∷ 8 ∷ 0x80 ∷ []) (key_frame ∷ []), accepted ((20 ∷ []) ∷ slots_with 0 0 0))
    ∷ (scans (0 ∷ 0 ∷ 0 ∷ 1 ∷ 0x9F ∷ 0xFC ∷ 0 ∷ 0 ∷ 0x11 ∷ []) (key_frame ∷ []), accepted ((20 ∷ []) ∷ slots_with 0 0 0))
    ∷ (scans (0 ∷ 0 ∷ 0 ∷ 1 ∷ 0x9F ∷ 0xFC ∷ 0 ∷ 0 ∷ 0x10 ∷ 0 ∷ []) (key_frame ∷ []), accepted ((18 ∷ []) ∷ slots_with 0 0 0))
    ∷ []

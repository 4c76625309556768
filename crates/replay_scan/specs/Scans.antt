-- What a request to scan is answered: for each frame its values or its refusal, then the slots, the kinds told.
use Rattle.std.specs.Prelude.{ℕ, suc, List, [], ◌∷◌, ◌++◌, drop, ℤ, pos, negsuc, nat_abs}
use Rattle.std.specs.List.{flat_map}
use mir.Val.{bool_byte}
use Rattle.bitio.specs.Parse.{Answer, refused, accepted}
use Rattle.bitio.specs.Limits.{limited}
use Rattle.obu.specs.Place.{part_in}
use Rattle.header.specs.Sequence.{parse_sequence}
use Rattle.frame.specs.FrameType.{type_number}
use Rattle.geometry.specs.declared.slots.RefSlot.{RefSlot}
use Rattle.uheader.specs.Scan.{scan_payloads, empty_slots, slots_after}
use Rattle.uheader.specs.declared.scan.Deltas.{Deltas}
use Rattle.uheader.specs.declared.scan.HeaderScan.{HeaderScan}
use Rattle.protocol.specs.Answers.{Numbered}
use Rattle.protocol.specs.Kinds.{plain, after_colon, item_code, packed}
use Rattle.protocol.specs.declared.kinds.Item.{Item}
use Rattle.protocol.specs.declared.kinds.Kind.{Kind}
use Rattle.protocol.specs.declared.kinds.Kind.TheVariants.{Number, Negative, Refused, Slots}
use Rattle.protocol.specs.Told.{numbers_by}

-- ---- kinds told as one number

-- each number behind a colon
abbrev colons : List ℕ → List Item
colons [] = []
colons (v ∷ vs) = after_colon Number ∷ colons vs

abbrev joined : List ℕ → List ℕ
joined vs = packed (colons vs) ∷ vs

-- and the first behind a space
abbrev led : ℕ → List ℕ → List ℕ
led v vs = packed (plain Number ∷ colons vs) ∷ v ∷ vs

-- ---- a frame

abbrev pub sign_kind : ℤ → Kind
sign_kind (pos n) = Number
sign_kind (negsuc n) = Negative

abbrev pub signed_fields : ℤ → List ℕ
signed_fields z = item_code (after_colon (sign_kind z)) ∷ nat_abs z ∷ []

abbrev pub delta_fields : Deltas → List ℕ
delta_fields d =
    signed_fields d.y_dc ++ (signed_fields d.u_dc ++ (signed_fields d.u_ac ++ (signed_fields d.v_dc ++ signed_fields d.v_ac)))

-- INSERT to HEIGHT
abbrev pub place_fields : HeaderScan → List ℕ
place_fields x =
    led x.removal_insert_pos
    (x.end_pos
    ∷ type_number x.frame.frame_type
    ∷ bool_byte x.frame.show_frame
    ∷ bool_byte x.frame.showable_frame
    ∷ x.frame.refresh_frame_flags
    ∷ x.size.frame_width
    ∷ x.size.frame_height
    ∷ [])

-- UPSCALED to BASEQ
abbrev pub size_fields : HeaderScan → List ℕ
size_fields x =
    joined (x.size.upscaled_width ∷ x.size.render_width ∷ x.size.render_height ∷ x.frame.order_hint ∷ x.base_q_idx ∷ [])

abbrev pub scan_fields : HeaderScan → List ℕ
scan_fields x = place_fields x ++ (size_fields x ++ delta_fields x.deltas)

-- or `no` and document 01's number
abbrev pub frame_fields : Answer HeaderScan → List ℕ
frame_fields (accepted x) = scan_fields x
frame_fields (refused k) = item_code (plain Refused) ∷ k ∷ []

-- ---- the slots

abbrev pub slot_fields : RefSlot → List ℕ
slot_fields x =
    led x.order_hint
    (x.size.upscaled_width
    ∷ x.size.frame_width
    ∷ x.size.frame_height
    ∷ x.size.render_width
    ∷ x.size.render_height
    ∷ bool_byte x.is_key_frame
    ∷ [])

unfoldable pub slots_fields : List RefSlot → List ℕ
slots_fields xs = item_code (plain Slots) ∷ 0 ∷ flat_map slot_fields xs

-- ---- all frames

-- from byte string i of s on, es being the ends, one for each end left
unfoldable pub frames_fields : (sequence s es : List ℕ) → List RefSlot → ℕ → List ℕ → List ℕ
frames_fields sequence s es slots i [] = slots_fields slots
frames_fields sequence s es slots i (e ∷ left) =
    let scanned = scan_payloads sequence slots (part_in s es i) in
    frame_fields scanned ++ frames_fields sequence s es (slots_after slots scanned) (suc i) left

-- scan SEQPAYLOAD FRAME .., from empty slots on: a sequence payload that does not read refuses them all
abbrev pub scan_told : (s es ns : List ℕ) → Numbered
scan_told s es ns =
    numbers_by (λ _. frames_fields (part_in s es 0) s es empty_slots 1 (drop 1 es)) (limited (part_in s es 0) (parse_sequence (part_in s es 0))) ns

-- The frames of a board's units, scanned (02 §2).
use Rattle.std.specs.Prelude.{ℕ, List, [], ◌∷◌, Bool, true, false, cond as pick, Option, Some, None}
use Rattle.std.specs.Option.{option_or}
use Rattle.bitio.specs.Refusal.{says}
use Rattle.bitio.specs.Parse.{Answer, refused, accepted, answer, and_next}
use Rattle.obu.specs.Obu.{Obu, obus}
use Rattle.obu.specs.Unit.{is_sequence, is_frame, has, first_payload, of_unit, sequence_payload}
use Rattle.geometry.specs.declared.size.Size.{Size}
use Rattle.geometry.specs.declared.slots.RefSlot.{RefSlot}
use Rattle.uheader.specs.Scan.{scan_payloads, slots_after, empty_slots}
use Rattle.uheader.specs.declared.scan.HeaderScan.{HeaderScan}
use Rattle.boardscan.specs.declared.scan.Left.{Left}
use Rattle.boardscan.specs.declared.scan.SegmentScan.{SegmentScan}

-- ---- the frames of a unit, one after the other

-- the size of the first, and the slots behind the last
pub record Behind : Type 0 where
  pub first : Option Size
  pub slots : List RefSlot

abbrev pub behind : Behind → HeaderScan → Behind
behind b x = record { first = option_or b.first (Some x.size); slots = slots_after b.slots (accepted x) }

-- the frame f under the sequence header q
unfoldable pub scan_frame : List ℕ → List ℕ → Behind → Answer Behind
scan_frame q f b = and_next (scan_payloads q b.slots f) (λ x. accepted (behind b x))

unfoldable pub scan_obus : List ℕ → Behind → List Obu → Answer Behind
scan_obus q b [] = accepted b
scan_obus q b (o ∷ os) = pick (is_frame o) (and_next (scan_frame q o.payload b) (λ c. scan_obus q c os)) (scan_obus q b os)

-- ---- a unit

-- 28: no frame
abbrev pub sized_as : Option Size → List RefSlot → Answer Left
sized_as None slots = refused 28
sized_as (Some z) slots = accepted (record { size = z; slots = slots })

abbrev pub sized : Behind → Answer Left
sized b = sized_as b.first b.slots

abbrev pub scan_all : List ℕ → List RefSlot → List Obu → Answer Left
scan_all q slots os = and_next (scan_obus q (record { first = None; slots = slots }) os) sized

-- 1 to 5; then what its frames say
unfoldable pub scan_under : List ℕ → List RefSlot → List ℕ → Answer Left
scan_under q slots u = and_next (obus u) (scan_all q slots)

-- whether its OBUs are read
abbrev pub is_read : List ℕ → Bool
is_read u = of_unit false (λ os. true) (obus u)

abbrev pub has_header : List ℕ → Bool
has_header u = of_unit false (has is_sequence) (obus u)

-- the first sequence header of a unit, or else of the unit that leads it; 26: neither has one
unfoldable pub header_for : List ℕ → List Obu → Answer (List ℕ)
header_for lead os = pick (has is_sequence os) (accepted (first_payload is_sequence os)) (pick (has_header lead) (accepted (sequence_payload lead)) (refused 26))

unfoldable pub scan_unit : List ℕ → List RefSlot → List ℕ → Answer Left
scan_unit lead slots u = and_next (obus u) (λ os. and_next (header_for lead os) (λ q. scan_all q slots os))

-- ---- a board

-- a refused unit leaves the slots as they were
abbrev pub slots_behind : List RefSlot → Answer Left → List RefSlot
slots_behind slots (refused k) = slots
slots_behind slots (accepted l) = l.slots

-- its key and its golden, and the slots behind both
pub record Board : Type 0 where
  pub key : Answer Left
  pub golden : Answer Left
  pub slots : List RefSlot

abbrev pub board_of : Answer Left → List RefSlot → Answer Left → Board
board_of k between g = record { key = k; golden = g; slots = slots_behind between g }

-- the golden behind the key, which leads it
abbrev pub golden_behind : List ℕ → List ℕ → Answer Left → List RefSlot → Board
golden_behind key golden k between = board_of k between (scan_unit key between golden)

-- a board from empty slots on
unfoldable pub scan_segment : List ℕ → List ℕ → Board
scan_segment key golden =
    let k = scan_unit key empty_slots key in
    golden_behind key golden k (slots_behind empty_slots k)

-- the sizes of both units alone, and the slots behind both
pub record BoardSizes : Type 0 where
  pub key : Answer Size
  pub golden : Answer Size
  pub slots : List RefSlot

abbrev pub size_of : Answer Left → Answer Size
size_of a = answer (λ l. l.size) a

abbrev pub sizes_of : Board → BoardSizes
sizes_of b = record { key = size_of b.key; golden = size_of b.golden; slots = b.slots }

-- what the code answers of it
abbrev pub board_says : SegmentScan → BoardSizes
board_says x = record { key = says x.key; golden = says x.golden; slots = x.slots }

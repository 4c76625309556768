-- The text that boardlist prints (01, 'Unit list and cue list'), in ASCII codes.
use Rattle.std.specs.Prelude.{ℕ, suc, ◌+◌, ◌*◌, ◌/◌, ◌%◌, List, [], ◌∷◌, ◌++◌, cond as pick, length, get_or, eqb}
use Rattle.std.proofs.Math.Option.{Option, none, some}
use Rattle.bitio.specs.Refusal.{number}
use Rattle.pictures.specs.Assemble.{named}
use Rattle.pictures.specs.Says.{segment_says}
use Rattle.pictures.specs.declared.fault.Fault.{Fault}
use Rattle.assemble.specs.declared.unit.UnitList.{UnitList}
use Rattle.listing.specs.Decimal.{field, counted}
use Rattle.listing.specs.declared.file.Unread.{Unread}
use Rattle.listing.specs.declared.file.Unread.TheVariants.{Bad, Full}

-- ---- a unit's line

-- 01: kind (K key, G golden, S show)
abbrev pub letter : ℕ → ℕ
letter n = pick (eqb (n % 4) 0) 75 (pick (eqb (n % 4) 1) 71 83)

-- the slot that a segment's show unit names, in its fifth byte: 128 + 16 * slot + 8 (AV1 5.9.2: show_existing_frame, then
-- frame_to_show_map_idx in three bits, then the trailing bit)
abbrev pub slot_in : List ℕ → ℕ → ℕ
slot_in shows i = get_or shows (5 * i + 4) 0 / 16 % 8

-- 01: slot shown or refreshed (- for a key), and a space
abbrev pub slot_field : List ℕ → ℕ → List ℕ
slot_field shows n = pick (eqb (n % 4) 0) (45 ∷ 32 ∷ []) (field (slot_in shows (n / 4)) 32)

-- 01: position, kind, segment, slot, byte length; the unit of list entry n at position p, which the picture bytes, their ends
-- and the show bytes hold
unfoldable pub line : (pictures ends shows : List ℕ) (p n : ℕ) → List ℕ
line pictures ends shows p n =
    field p 32 ++ ((letter n ∷ 32 ∷ []) ++ (field (n / 4) 32 ++ (slot_field shows n ++ field (length (named pictures ends shows n)) 10)))

-- the lines of a list whose first unit stands at p
unfoldable pub lines : (pictures ends shows : List ℕ) (p : ℕ) (list : List ℕ) → List ℕ
lines pictures ends shows p [] = []
lines pictures ends shows p (n ∷ list) = line pictures ends shows p n ++ lines pictures ends shows (suc p) list

-- ---- the whole

-- `units `
abbrev pub units_word : List ℕ
units_word = 117 ∷ 110 ∷ 105 ∷ 116 ∷ 115 ∷ 32 ∷ []

-- `cues `
abbrev pub cues_word : List ℕ
cues_word = 99 ∷ 117 ∷ 101 ∷ 115 ∷ 32 ∷ []

-- `refused `
abbrev pub refused_word : List ℕ
refused_word = 114 ∷ 101 ∷ 102 ∷ 117 ∷ 115 ∷ 101 ∷ 100 ∷ 32 ∷ []

-- `segment `
abbrev pub segment_word : List ℕ
segment_word = 115 ∷ 101 ∷ 103 ∷ 109 ∷ 101 ∷ 110 ∷ 116 ∷ 32 ∷ []

-- 01: the counts of units and cues come first; positions count from 1
unfoldable pub listing : (list : List ℕ) (cues : ℕ) (pictures ends shows : List ℕ) → List ℕ
listing list cues pictures ends shows =
    counted units_word (length list) 10 ++ (counted cues_word cues 10 ++ lines pictures ends shows 1 list)

-- 01: `refused N`
abbrev pub refused_text : ℕ → List ℕ
refused_text k = counted refused_word k 10

-- 01: `refused N segment I`
abbrev pub refused_in_text : ℕ → ℕ → List ℕ
refused_in_text k i = counted refused_word k 32 ++ counted segment_word i 10

-- 01: `bad file`
abbrev pub bad_file : List ℕ
bad_file = 98 ∷ 97 ∷ 100 ∷ 32 ∷ 102 ∷ 105 ∷ 108 ∷ 101 ∷ 10 ∷ []

-- a refusal, with its segment where it has one
abbrev pub stopped_text : ℕ → Option ℕ → List ℕ
stopped_text k none = refused_text k
stopped_text k (some i) = refused_in_text k i

-- the same of why assembly refuses
abbrev pub fault_text : Fault → List ℕ
fault_text f = stopped_text (number f.refusal) (segment_says f.segment)

-- why a file was not read; 35: no room for its segments
abbrev pub unread_text : Unread → List ℕ
unread_text Bad = bad_file
unread_text Full = refused_text 35

-- ---- the same of a list's units

abbrev pub line_in : UnitList → ℕ → ℕ → List ℕ
line_in u p n = line u.pictures.now u.ends.now u.shows.now p n

abbrev pub lines_in : UnitList → List ℕ
lines_in u = lines u.pictures.now u.ends.now u.shows.now 1 u.list.now

abbrev pub listing_in : ℕ → UnitList → List ℕ
listing_in cues u = listing u.list.now cues u.pictures.now u.ends.now u.shows.now

-- Segments as structs (01: a lent list of range records), and assembly from them by way of a lent slice of numbers.
use Rattle.std.specs.Prelude.{ℕ, List, [], ◌∷◌, ◌++◌, Bool, cond as pick, length, leb, ltb}
use Rattle.std.proofs.Math.Option.{none}
use Rattle.bitio.specs.Limits.{limit}
use Rattle.bitio.specs.Lent.{pasted}
use Rattle.blocks.specs.Numbers.{record_of, segment_count}
use Rattle.blocks.specs.declared.numbers.Segment.{Segment as SegmentStruct}
use Rattle.pictures.specs.Assemble.{Outcome, stopped, Output}
use Rattle.pictures.specs.declared.settings.Settings.{Settings}
use Rattle.assemble.specs.Whole.{Lent, outcome}

-- the records of all segments, one after the other
unfoldable pub numbers_of : List SegmentStruct → List ℕ
numbers_of [] = []
numbers_of (x ∷ xs) = record_of x ++ numbers_of xs

-- room for so many records
abbrev pub has_records : ℕ → List ℕ → Bool
has_records count d = leb count (segment_count d)

-- what the lent numbers hold afterwards: those of the segments at their head, or, without room, what they held
unfoldable pub numbers_after : List SegmentStruct → List ℕ → List ℕ
numbers_after xs d = pick (has_records (length xs) d) (pasted d 0 (numbers_of xs)) d

-- without room for the numbers nothing more can be read: 35, behind 34 alone
unfoldable pub no_room : List ℕ → Outcome Output
no_room s = pick (ltb limit (length s)) (stopped 34 none) (stopped 35 none)

-- assembly from structs
unfoldable pub records_outcome : (s : List ℕ) (xs : List SegmentStruct) (d : List ℕ) → Settings → Lent → Outcome Output
records_outcome s xs d set l =
    pick (has_records (length xs) d) (outcome s (numbers_of xs) set l) (no_room s)

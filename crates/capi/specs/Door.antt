-- An answer as numbers for C.
use Rattle.std.specs.Prelude.{ℕ, ◌≡◌, List}
use denote.Triple.Both.{Both}
use Rattle.bitio.specs.Parse.{Answer, refused, accepted}
use Rattle.container.specs.Limits.{Room, room_in}
use Rattle.container.specs.Units.{sizes_of, bytes_after, ends_after}
use Rattle.container.specs.declared.units.Sizes.{Sizes}
use Rattle.pictures.specs.Assemble.{Outcome, stopped, made, Output}
use Rattle.assemble.specs.Whole.{Lent, lent_after, counts_of, assembled_code}
use Rattle.assemble.specs.declared.multi.Counts.{Counts}

-- 0, or 01's number
abbrev pub code_of : Answer Sizes → ℕ
code_of (refused k) = k
code_of (accepted x) = 0

-- what a number that is lent holds afterwards, d being what it held
abbrev pub byte_count_after : Answer Sizes → ℕ → ℕ
byte_count_after (refused k) d = d
byte_count_after (accepted x) d = x.bytes

abbrev pub unit_count_after : Answer Sizes → ℕ → ℕ
unit_count_after (refused k) d = d
unit_count_after (accepted x) d = x.units

-- the memory lent to stream reading, at one moment
pub record StreamLent : Type 0 where
  pub out : List ℕ
  pub ends : List ℕ
  pub bytes : ℕ
  pub units : ℕ

abbrev pub four : (out ends : List ℕ) (bytes units : ℕ) → StreamLent
four out ends bytes units = record { out = out; ends = ends; bytes = bytes; units = units }

-- what it holds afterwards
abbrev pub stream_lent_after : Answer (List (List ℕ)) → StreamLent → StreamLent
stream_lent_after x d =
    record { out = bytes_after x d.out; ends = ends_after x d.ends; bytes = byte_count_after (sizes_of x) d.bytes; units = unit_count_after (sizes_of x) d.units }

-- the code, and what is lent at exit; x: the units, by the room for them
pub record UnitsRead (x : Room → Answer (List (List ℕ))) (r : ℕ) (d : Both StreamLent StreamLent) : Type 0 where
  pub code : r ≡ code_of (sizes_of (x (room_in d.entry.out d.entry.ends)))
  pub lent : d.exit ≡ stream_lent_after (x (room_in d.entry.out d.entry.ends)) d.entry

-- ---- assembly

-- the numbers lent to C, at one moment
pub record Numbers : Type 0 where
  pub units : ℕ
  pub cues : ℕ
  pub picture : ℕ
  pub header : ℕ
  pub slot : ℕ

-- what they hold afterwards
abbrev pub counts_after : Outcome Counts → Numbers → Numbers
counts_after (made c) n = record { units = c.units; cues = c.cues; picture = c.picture; header = c.header; slot = c.golden_slot }
counts_after (stopped k i) n = n

abbrev pub five : (units cues picture header slot : ℕ) → Numbers
five units cues picture header slot = record { units = units; cues = cues; picture = picture; header = header; slot = slot }

-- the code, and the lent slices and numbers at exit
pub record Called (x : Lent → Outcome Output) (r : ℕ) (d : Both Lent Lent) (n : Both Numbers Numbers) : Type 0 where
  pub code : r ≡ assembled_code (counts_of (x d.entry))
  pub lent : d.exit ≡ lent_after (x d.entry) d.entry
  pub numbers : n.exit ≡ counts_after (counts_of (x d.entry)) n.entry

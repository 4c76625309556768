-- Lent memory at a function's entry and exit, and what each stage of the way does with its own.
use Rattle.std.specs.Prelude.{ℕ, ◌≡◌, List, length, Result}
use denote.Triple.Both.{Both}
use Rattle.bitio.specs.Parse.{Answer}
use Rattle.bitio.specs.Refusal.{says}
use Rattle.bitio.specs.declared.refusal.Refusal.{Refusal}
use Rattle.container.specs.Limits.{Room, room_in}
use Rattle.container.specs.Units.{sizes_of, bytes_after, ends_after, count_of, out_after}
use Rattle.container.specs.declared.units.Sizes.{Sizes}

-- A stage with the lent memory d: its result says what it answers to the memory at entry, and what it leaves is the memory at exit.
pub record Does {A D : Type 0} (answers : D → Answer A) (leaves : D → D) (r : Result A Refusal) (d : Both D D) : Type 0 where
  pub answer : says r ≡ answers d.entry
  pub lent : d.exit ≡ leaves d.entry

-- ---- bytes, or what positions show, to the head of one slice

-- x: the result, by how much room there is
abbrev pub Fills : {A : Type 0} → (ℕ → Answer (List A)) → Result ℕ Refusal → Both (List A) (List A) → Type 0
Fills x = Does (λ d. count_of (x (length d))) (λ d. out_after (x (length d)) d)

-- ---- units to the heads of two

-- the units' bytes one behind the other, and the end of each
pub record Store : Type 0 where
  pub bytes : List ℕ
  pub ends : List ℕ

abbrev pub store_room : Store → Room
store_room d = room_in d.bytes d.ends

abbrev pub store_after : Answer (List (List ℕ)) → Store → Store
store_after x d = record { bytes = bytes_after x d.bytes; ends = ends_after x d.ends }

-- what two lent slices hold, at one moment
abbrev pub store : (bytes ends : List ℕ) → Store
store bytes ends = record { bytes = bytes; ends = ends }

abbrev pub Stores : (Room → Answer (List (List ℕ))) → Result Sizes Refusal → Both Store Store → Type 0
Stores x = Does (λ d. sizes_of (x (store_room d))) (λ d. store_after (x (store_room d)) d)

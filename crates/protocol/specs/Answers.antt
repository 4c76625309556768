-- What a request is answered, with what it tells in the memory lent to it. What has no room there is left out.
use Rattle.std.specs.Prelude.{◌≡◌, ℕ, ◌+◌, ◌%◌, ◌^◌, List, [], ◌∷◌, Bool, false, cond as pick, ◌&&◌, Option, Some, None, length, set, ltb}
use Rattle.std.specs.Option.{option_map}
use Rattle.bitio.specs.Lent.{pasted, has_room}
use Rattle.bitio.specs.Refusal.{number}
use Rattle.protocol.specs.declared.answer.Answer.{Answer}
use Rattle.protocol.specs.declared.answer.Numbers.{Numbers}

-- document 01's number of a refusal, or none, and how much of the memory lent is the answer's: bytes, ends of its parts, and
-- numbers; dirty where a call has changed memory that it does not account for
pub record Line : Type 0 where
  pub refusal : Option ℕ
  pub bytes : ℕ
  pub ends : ℕ
  pub numbers : ℕ
  pub is_dirty : Bool

-- an answer of the code
abbrev pub line : Answer → Line
line a = record { refusal = option_map number a.refused; bytes = a.bytes; ends = a.ends; numbers = a.numbers; is_dirty = a.is_dirty }

-- so many bytes, in so many parts
abbrev pub parts_of : ℕ → ℕ → Line
parts_of n u = record { refusal = None; bytes = n; ends = u; numbers = 0; is_dirty = false }

-- document 01's number k
abbrev pub refused_with : ℕ → Line
refused_with k = record { refusal = Some k; bytes = 0; ends = 0; numbers = 0; is_dirty = false }

-- ---- numbers

-- an answer and the numbers lent to it
pub record Numbered : Type 0 where
  pub answer : Line
  pub numbers : List ℕ

abbrev pub numbered : Line → List ℕ → Numbered
numbered a ns = record { answer = a; numbers = ns }

-- v stored behind the answer's numbers
abbrev pub stored_number : Line → List ℕ → ℕ → Numbered
stored_number a ns v =
    record {
      answer = record { refusal = a.refusal; bytes = a.bytes; ends = a.ends; numbers = a.numbers + 1; is_dirty = a.is_dirty };
      numbers = set ns a.numbers v;
    }

-- with one number more
unfoldable pub with_number : Numbered → ℕ → Numbered
with_number t v = pick (ltb t.answer.numbers (length t.numbers)) (stored_number t.answer t.numbers v) t

-- with these, one after the other
unfoldable pub with_numbers : Numbered → List ℕ → Numbered
with_numbers t [] = t
with_numbers t (v ∷ vs) = with_numbers (with_number t v) vs

-- those of the code
abbrev pub numbers_told : Numbers → Numbered
numbers_told n = numbered (line n.answer) n.numbers.now

-- these told more, in the same memory
pub record Tells (old new : Numbers) (more : List ℕ) : Type 0 where
  pub told : numbers_told new ≡ with_numbers (numbers_told old) more
  pub lent : new.numbers.ghost_name ≡ old.numbers.ghost_name

-- ---- bytes

-- an answer and the bytes lent to it
pub record Filled : Type 0 where
  pub answer : Line
  pub bytes : List ℕ

abbrev pub filled : Line → List ℕ → Filled
filled a s = record { answer = a; bytes = s }

-- ---- parts of the bytes

-- an answer, and the bytes and ends lent to it
pub record Parted : Type 0 where
  pub answer : Line
  pub bytes : List ℕ
  pub ends : List ℕ

abbrev pub parted : Line → List ℕ → List ℕ → Parted
parted a s es = record { answer = a; bytes = s; ends = es }

abbrev pub has_part_room : Parted → List ℕ → Bool
has_part_room t xs = ltb t.answer.ends (length t.ends) && has_room t.bytes t.answer.bytes xs

-- xs put behind the answer's bytes, and its end, of which 32 bits are kept, behind the answer's ends
abbrev pub stored_part : Line → List ℕ → List ℕ → List ℕ → Parted
stored_part a s es xs =
    record {
      answer = record { refusal = a.refusal; bytes = a.bytes + length xs; ends = a.ends + 1; numbers = a.numbers; is_dirty = a.is_dirty };
      bytes = pasted s a.bytes xs;
      ends = set es a.ends ((a.bytes + length xs) % 2 ^ 32);
    }

-- with one part more
unfoldable pub with_part : Parted → List ℕ → Parted
with_part t xs = pick (has_part_room t xs) (stored_part t.answer t.bytes t.ends xs) t

-- with these, one after the other
unfoldable pub with_parts : Parted → List (List ℕ) → Parted
with_parts t [] = t
with_parts t (xs ∷ xss) = with_parts (with_part t xs) xss

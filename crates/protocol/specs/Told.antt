-- What an operation of a library answers, told as a request's answer in the memory lent to it.
use Rattle.std.specs.Prelude.{◌≡◌, ℕ, List}
use Rattle.bitio.specs.Parse.{Answer, refused, accepted}
use Rattle.protocol.specs.Answers.{Line, parts_of, refused_with, Numbered, numbered, with_numbers, Filled, Parted, parted, with_parts}
use Rattle.protocol.specs.declared.memory.Memory.{Memory}

-- a refusal by document 01's number, or what f makes of the rest
abbrev pub told_by : {A : Type 0} → (A → Line) → Answer A → Line
told_by f (refused k) = refused_with k
told_by f (accepted a) = f a

-- so many bytes
abbrev pub count_told : Answer ℕ → Line
count_told x = told_by (λ n. parts_of n 0) x

-- numbers; a refusal leaves those that are lent
abbrev pub numbers_by : {A : Type 0} → (A → List ℕ) → Answer A → List ℕ → Numbered
numbers_by f (refused k) ns = numbered (refused_with k) ns
numbers_by f (accepted a) ns = with_numbers (numbered (parts_of 0 0) ns) (f a)

-- ---- an answer with all the memory lent to it

pub record Told : Type 0 where
  pub answer : Line
  pub bytes : List ℕ
  pub ends : List ℕ
  pub numbers : List ℕ

abbrev pub told : Line → List ℕ → List ℕ → List ℕ → Told
told a s es ns = record { answer = a; bytes = s; ends = es; numbers = ns }

-- with the memory of the code
abbrev pub told_in : Line → Memory → Told
told_in a m = told a m.bytes.now m.ends.now m.numbers.now

-- the same memory, whatever it holds
pub record SameMemory (old new : Memory) : Type 0 where
  pub bytes : new.bytes.ghost_name ≡ old.bytes.ghost_name
  pub ends : new.ends.ghost_name ≡ old.ends.ghost_name
  pub numbers : new.numbers.ghost_name ≡ old.numbers.ghost_name

-- numbers beside bytes and ends, bytes beside ends and numbers, bytes and ends beside numbers
abbrev pub numbers_told : List ℕ → List ℕ → Numbered → Told
numbers_told s es n = told n.answer s es n.numbers

abbrev pub bytes_told : List ℕ → List ℕ → Filled → Told
bytes_told es ns f = told f.answer f.bytes es ns

abbrev pub parts_told : List ℕ → Parted → Told
parts_told ns p = told p.answer p.bytes p.ends ns

-- with these numbers, or these parts, more
abbrev pub tell_numbers : Told → List ℕ → Told
tell_numbers t vs = numbers_told t.bytes t.ends (with_numbers (numbered t.answer t.numbers) vs)

abbrev pub tell_parts : Told → List (List ℕ) → Told
tell_parts t xss = parts_told t.numbers (with_parts (parted t.answer t.bytes t.ends) xss)

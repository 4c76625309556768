-- Lent memory: marked before a call, and looked at after it.
use Rattle.std.specs.Prelude.{ℕ, List, Bool, not, ◌&&◌, cond as pick, length, drop, replicate, eqb}
use Rattle.std.specs.List.{list_all}
use Rattle.protocol.specs.Answers.{Line}

-- A5 in every byte of an element
abbrev pub byte_mark : ℕ
byte_mark = 0xa5

abbrev pub end_mark : ℕ
end_mark = 0xa5a5a5a5

abbrev pub number_mark : ℕ
number_mark = 0xa5a5a5a5a5a5a5a5

-- d before a call: all marks, unless the request fills it by itself
abbrev pub marked_for : Bool → ℕ → List ℕ → List ℕ
marked_for own m d = pick own d (replicate (length d) m)

-- every element is the mark m
abbrev pub is_marked : ℕ → List ℕ → Bool
is_marked m s = list_all (λ b. eqb b m) s

-- after a call: what the answer does not account for is as it was marked
abbrev pub is_clean : Bool → Line → (bytes ends numbers : List ℕ) → Bool
is_clean own a s es ns =
    pick own (not a.is_dirty)
    (is_marked byte_mark (drop a.bytes s) && is_marked end_mark (drop a.ends es) && is_marked number_mark (drop a.numbers ns))

-- The OBUs of a unit or a stream, one behind the other, as the code walks over them.
use Rattle.std.specs.Prelude.{◌≡◌, ℕ, ◌-◌, List, cond as pick, ltb, Option, Some, None, Result, Ok, Err}
use Rattle.std.specs.Iterator.{Count, at_most}
use Rattle.bitio.specs.declared.refusal.Refusal.{Refusal}
use Rattle.obu.specs.Place.{Place, no_more, found_says, obu_place}
use Rattle.obu.specs.declared.reader.Obu.{Obu}
use Rattle.obu.specs.declared.obus.Obus.{Obus}

-- the OBUs of s from `at` on that begin before `end`
abbrev pub Walks : Obus → List ℕ → ℕ → ℕ → Type 0
Walks it s at end = (it.bytes.now ≡ s) × (it.at ≡ at) × (it.end ≡ end)

-- what is given next
abbrev pub next_place : Obus → Place
next_place it = pick (ltb it.at it.end) (obu_place it.bytes.now it.at) no_more

abbrev pub given : Option (Result Obu Refusal) → Place
given None = no_more
given (Some x) = found_says x

-- where the walk goes on: behind the OBU, and after a refusal nowhere
abbrev pub behind : Obus → Option (Result Obu Refusal) → ℕ
behind it None = it.at
behind it (Some (Ok o)) = o.end
behind it (Some (Err e)) = it.end

abbrev pub GivesObu : Obus → Option (Result Obu Refusal) → Obus → Type 0
GivesObu old r new = (given r ≡ next_place old) × Walks new old.bytes.now (behind old r) old.end

-- each OBU has at least a byte
abbrev pub bytes_left : Obus → Count
bytes_left it = at_most (it.end - it.at)

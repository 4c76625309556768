-- A list of units in lent memory, as it is made.
use Rattle.std.specs.Prelude.{ℕ, ◌≡◌, List, Result, Ok, Err}
use Rattle.bitio.specs.Parse.{refused}
use Rattle.bitio.specs.Refusal.{number}
use Rattle.bitio.specs.declared.refusal.Refusal.{Refusal}
use Rattle.container.specs.Units.{units_at}
use Rattle.container.specs.declared.lists.Units.{Units}

-- the bytes and their ends as a list, or the refusal
abbrev pub Listed : List ℕ → List ℕ → Result Units Refusal → Type 0
Listed s es (Ok x) = (x.bytes.now ≡ s) × (x.ends.now ≡ es)
Listed s es (Err e) = units_at s es ≡ refused (number e)

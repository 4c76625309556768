-- A row of the table of cases: an answer that the definitions compute, and what 01 says it is.
use Rattle.std.specs.Prelude.{ℕ, List}
use Rattle.bitio.specs.Parse.{Answer}

-- an answer as a list of byte strings or numbers
abbrev pub Row : Type 0
Row = Answer (List (List ℕ)) × Answer (List (List ℕ))

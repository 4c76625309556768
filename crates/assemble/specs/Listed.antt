-- A list's units, in what assembly handed out.
use Rattle.std.specs.Prelude.{ℕ, List}
use Rattle.pictures.specs.Assemble.{named}
use Rattle.assemble.specs.declared.unit.UnitList.{UnitList}

-- the unit that the entry n names
abbrev pub unit_in : UnitList → ℕ → List ℕ
unit_in u n = named u.pictures.now u.ends.now u.shows.now n

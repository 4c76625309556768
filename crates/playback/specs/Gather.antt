-- The units that a list's entries name, gathered in lent memory as the containers' writers take them.
use Rattle.std.specs.Prelude.{ℕ, ◌≤◌, List, map, length}
use Rattle.bitio.specs.Limits.{limit}
use Rattle.bitio.specs.Parse.{Answer, accepted}
use Rattle.container.specs.Limits.{Room, fit_units}
use Rattle.container.specs.Stream.{stream_bytes}
use Rattle.pictures.specs.Assemble.{named}
use Rattle.assemble.specs.declared.unit.UnitList.{UnitList}

-- the units that the entries name, in order
unfoldable pub units_named : (list picture ends shows : List ℕ) → List (List ℕ)
units_named list picture ends shows = map (named picture ends shows) list

-- the same of those that the code is handed
abbrev pub units_listed : UnitList → List (List ℕ)
units_listed x = units_named x.list.now x.pictures.now x.ends.now x.shows.now

-- 35: lent room or the limit cannot hold them
unfoldable pub gathered : List (List ℕ) → Room → Answer (List (List ℕ))
gathered us room = fit_units room (accepted us)

-- lent room and the limit hold the units us
pub record HasRoom (room : Room) (us : List (List ℕ)) : Type 0 where
  pub small : length (stream_bytes us) ≤ limit
  pub bytes : length (stream_bytes us) ≤ room.bytes
  pub ends : length us ≤ room.ends

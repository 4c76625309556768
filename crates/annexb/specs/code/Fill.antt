-- What the writing pass of Annex B is given, and what it leaves.
use Rattle.std.specs.Prelude.{ℕ, ◌+◌, ◌≤◌, ◌≡◌, List, map, length}
use Rattle.bitio.specs.Parse.{Answer, accepted, answer, many}
use Rattle.obu.specs.Obu.{Obu, unit_bytes}
use Rattle.container.specs.Stream.{stream_bytes}
use Rattle.container.specs.AnnexB.{temporal_unit}
use Rattle.bitio.specs.Limits.{limit}
use Rattle.container.specs.Units.{bytes_after, ends_after}

-- the units of Annex B, in written form
abbrev pub units_read : List ℕ → Answer (List (List ℕ))
units_read s = answer (map unit_bytes) (many temporal_unit s)

-- OBUs that are read, and have room in d at w, p being how they are written
pub record ObusRoom (x : Answer (List Obu)) (p : List Obu → List ℕ) (d : List ℕ) (w : ℕ) : Type 0 where
  pub held : List Obu
  pub reads : x ≡ accepted held
  pub room : w + length (p held) ≤ length d

-- units that are read, and have room with their ends
pub record UnitsRoom (s d e : List ℕ) : Type 0 where
  pub units : List (List Obu)
  pub reads : many temporal_unit s ≡ accepted units
  pub small : length (stream_bytes (map unit_bytes units)) ≤ limit
  pub room : length (stream_bytes (map unit_bytes units)) ≤ length d
  pub slots : length units ≤ length e

-- d and e with the units and their ends
pub record Filled (s d e d' e' : List ℕ) : Type 0 where
  pub out : d' ≡ bytes_after (units_read s) d
  pub ends : e' ≡ ends_after (units_read s) e

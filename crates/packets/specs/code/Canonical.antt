-- What the code of canonicalize_tu asks of a unit.
use Rattle.std.specs.Prelude.{ℕ, ◌≤◌, ◌≡◌, List, false, length}
use Rattle.obu.specs.Obu.{obus}
use Rattle.obu.specs.Unit.{stray_in, of_unit}
use Rattle.bitio.specs.Limits.{limit}

-- a unit that is copied
pub record Clean (u : List ℕ) : Type 0 where
  pub short : length u ≤ limit
  pub clean : of_unit false stray_in (obus u) ≡ false

-- Lists of units in lent memory: each unit by its index, and whether the ends make a list.
use Rattle.std.specs.Prelude.{ℕ, List, [], ◌∷◌, Bool, true, false, get_or}
use Rattle.bitio.specs.Parse.{Answer, refused, accepted}
use Rattle.obu.specs.Place.{part}

-- the units of s whose ends are given, the first of which starts at `at`; an end that is not there gives an empty unit
unfoldable pub listed_from : ℕ → List ℕ → List ℕ → List (List ℕ)
listed_from at s [] = []
listed_from at s (e ∷ es) = part s at e ∷ listed_from e s es

abbrev pub listed : List ℕ → List ℕ → List (List ℕ)
listed s es = listed_from 0 s es

abbrev pub unit_of : List ℕ → List ℕ → ℕ → List ℕ
unit_of s es i = get_or (listed s es) i []

abbrev pub accepts : {A : Type 0} → Answer A → Bool
accepts (refused k) = false
accepts (accepted a) = true

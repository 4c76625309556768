-- Inputs in which no inner OBU of Annex B has its size bit set.
use Rattle.std.specs.Prelude.{ℕ, zero, suc, ◌≡◌, List, [], ◌∷◌, false, length}
use Rattle.bitio.specs.Parse.{Head, stop, item}
use Rattle.bitio.specs.Every.{Every}
use Rattle.bitio.specs.Leb.{sized}
use Rattle.obu.specs.Obu.{flag}

module _ {A : Type 0} where
  abbrev pub and_on : Head A → (List ℕ → List A) → List A
  and_on (stop k) go = []
  and_on (item a r) go = a ∷ go r

  unfoldable pub reached_f : (List ℕ → Head A) → ℕ → List ℕ → List A
  reached_f h zero s = []
  reached_f h (suc f) [] = []
  reached_f h (suc f) (b ∷ s) = and_on (h (b ∷ s)) (λ r. reached_f h f r)

  -- one thing after another, to the end of the list or the first refusal
  unfoldable pub reached : (List ℕ → Head A) → List ℕ → List A
  reached h s = reached_f h (length s) s

-- an OBU's header byte has the size bit clear
abbrev pub Clear : List ℕ → Type 0
Clear [] = Unit
Clear (h ∷ s) = flag 2 h ≡ false

-- so have all OBUs to which the lengths lead: of a frame unit, of a unit, of all units
abbrev pub ClearFrame : List ℕ → Type 0
ClearFrame s = Every Clear (reached (sized 10 11) s)

abbrev pub ClearUnit : List ℕ → Type 0
ClearUnit s = Every ClearFrame (reached (sized 8 9) s)

abbrev pub ClearUnits : List ℕ → Type 0
ClearUnits s = Every ClearUnit (reached (sized 6 7) s)

-- Laws of the unit that an entry names, by the tests that the code makes.
use Prim.Native.Nat.{ℕ, ◌+◌, ◌*◌, ◌/◌, ◌%◌, ◌<◌, ◌≤◌}
use mathlib.Core.Path.{◌≡◌, ap₂, ◌∙◌}
use mathlib.Core.List.{List, [], ◌∷◌}
use lib.ListN.{get_or}
use borrow.Author.Tests.{lt-ltb, le-ltb, eq-eqb, ne_eqb}
use Rattle.obu.specs.Place.{part}
use Rattle.pictures.specs.Assemble.{named}

module _ (ps es ss : List ℕ) (n : ℕ) where
  pub named-picture : (a e : ℕ) → n % 4 < 2 → a ≡ get_or (0 ∷ es) (2 * (n / 4) + n % 4) 0 → e ≡ get_or es (2 * (n / 4) + n % 4) 0 → part ps a e ≡ named ps es ss n
  unfolding named
  named-picture a e h p q = ap₂ (λ (x y : ℕ). part ps x y) p q ∙ rw (lt-ltb (n % 4) 2 h)

  pub named-show : 2 ≤ n % 4 → n % 4 ≡ 2 → part ss (5 * (n / 4)) (5 * (n / 4) + 5) ≡ named ps es ss n
  unfolding named
  named-show h k = rw (le-ltb (n % 4) 2 h, eq-eqb (n % 4) 2 k)

  pub named_none : 2 ≤ n % 4 → (n % 4 ≡ 2 → ⊥) → [] ≡ named ps es ss n
  unfolding named
  named_none h k = rw (le-ltb (n % 4) 2 h, ne_eqb (n % 4) 2 k)

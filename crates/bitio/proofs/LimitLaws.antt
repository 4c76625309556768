-- What an input's length says, once it was checked.
use Prim.Native.Nat.{ℕ, ◌≤◌, ◌<◌}
use native.Mathlib.Omega.{arith}
use mathlib.Core.Path.{◌≡◌, refl}
use mathlib.Core.List.{List}
use mathlib.Core.Bool.{Bool, true, false, cond as pick}
use lib.ListN.{length}
use lib.Dec.{leb}
use borrow.Author.Tests.{leb-true, leb-false}
use Rattle.bitio.specs.Limits.{limit, limited}
use Rattle.bitio.specs.Parse.{Answer, refused, accepted}

module _ (s : List ℕ) where
  pub limit_kept : {x : Unit {0}} → accepted x ≡ limited s (accepted tt) → length s ≤ limit
  unfolding limited
  limit_kept {x} e = go (leb (length s) limit) refl e
    where
      go : (b : Bool) → leb (length s) limit ≡ b → accepted x ≡ pick b (accepted tt) (refused 34) → length s ≤ limit
      go true p e = leb-true (length s) limit p
      go false p e = let z : ◌≡◌ {A = ℕ} 0 1 = cc in absurd (omega arith)

  pub limit_passed : {k : ℕ} → ◌≡◌ {A = Answer (Unit {0})} (refused k) (limited s (accepted tt)) → (limit < length s) × (k ≡ 34)
  unfolding limited
  limit_passed {k} e = go (leb (length s) limit) refl e
    where
      go : (b : Bool) → leb (length s) limit ≡ b → ◌≡◌ {A = Answer (Unit {0})} (refused k) (pick b (accepted tt) (refused 34)) → (limit < length s) × (k ≡ 34)
      go true p e = let z : ◌≡◌ {A = ℕ} 0 1 = cc in absurd (omega arith)
      go false p e = (leb-false (length s) limit p, cc)

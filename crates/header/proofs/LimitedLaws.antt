-- Laws of the limit.
use Prim.Native.Nat.{ℕ, ◌≤◌, ◌<◌}
use native.Mathlib.Omega.{arith}
use mathlib.Core.Path.{◌≡◌}
use mathlib.Core.List.{List}
use mathlib.Core.Bool.{Bool, true, false, cond as pick}
use lib.Dec.{leb}
use lib.ListN.{length}
use borrow.Author.Tests.{lt-leb, le-leb}
use Rattle.bitio.specs.Parse.{Answer, refused, accepted}
use Rattle.bitio.specs.Limits.{limit, limited}

module _ {A : Type 0} (s : List ℕ) (a : Answer A) where
  -- over the limit bytes are refused, whatever they read as
  pub over-limit : limit < length s → limited s a ≡ refused 34
  unfolding limited
  over-limit h = rw (lt-leb (length s) limit h)

  -- within it they are read
  pub within-limit : length s ≤ limit → limited s a ≡ a
  unfolding limited
  within-limit h = rw (le-leb (length s) limit h)

  -- what is accepted was read
  pub limited-read : {b : A} → limited s a ≡ accepted b → a ≡ accepted b
  unfolding limited
  limited-read {b} e = go (leb (length s) limit) e
    where
      go : (t : Bool) → pick t a (refused 34) ≡ accepted b → a ≡ accepted b
      go true e = e
      go false e = let z : ◌≡◌ {A = ℕ} 0 1 = cc in absurd (omega arith)

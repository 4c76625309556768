-- tile_log2, doubling by doubling.
use Prim.Native.Nat.{ℕ, zero, suc, ◌*◌, ◌^◌, ◌≤◌, ◌<◌}
use native.Mathlib.Omega.{arith}
use native.Mathlib.Decide.{dec_lt}
use native.Mathlib.Nat.{pow-suc, mul_assoc}
use mathlib.Core.Path.{◌≡◌, refl, ap, ◌∙◌}
use borrow.Author.Tests.{lt-ltb, le-ltb}
use Rattle.geometry.specs.TileLimits.{doublings}

pub doubled : (n blk target : ℕ) → blk < target → doublings (suc n) blk target ≡ suc (doublings n (2 * blk) target)
unfolding doublings
doubled n blk target h = rw (lt-ltb blk target h)

pub reached : (n blk target : ℕ) → target ≤ blk → doublings n blk target ≡ 0
unfolding doublings
reached zero blk target h = refl
reached (suc n) blk target h = rw (le-ltb blk target h)

-- no more doublings than are enough
pub enough : (m n blk target : ℕ) → target ≤ 2 ^ m * blk → doublings n blk target ≤ m
unfolding doublings
enough m zero blk target h = omega arith
enough zero (suc n) blk target h = rw (le-ltb blk target (omega arith)) (omega arith)
enough (suc m) (suc n) blk target h =
    elim (dec_lt blk target) [
      | yes l ↦
          let e : 2 ^ suc m * blk ≡ 2 ^ m * (2 * blk) = ap (λ (p : ℕ). p * blk) (pow-suc 2 m) ∙ mul_assoc (2 ^ m) 2 blk in
          rw (lt-ltb blk target l) (omega (arith, enough m n (2 * blk) target (omega arith)))
      | no l ↦ rw (le-ltb blk target (omega arith)) (omega arith)
    ]

-- The numbers of ns(n).
use Prim.Native.Nat.{ℕ, suc, ◌+◌, ◌*◌, ◌%◌, ◌^◌, ◌≤◌, ◌<◌}
use native.Mathlib.Omega.{arith}
use native.Mathlib.Nat.{pow-suc, mod-eq_of_lt}
use mathlib.Core.Path.{◌≡◌, sym, ap, ◌∙◌}
use Rattle.bitio.specs.Write.{halvings}
use Rattle.bitio.proofs.UvlcFormLaws.{HighestBit, halve-place, halve-le}

-- n has z + 1 bits
module _ (n : ℕ) {z : ℕ} (low : 1 ≤ n) (high : n ≤ 2 ^ 32) (e : z ≡ halvings 32 n) where
  pub place : HighestBit n z
  place = rw e (halve-place 32 n low (omega arith))

  pub few : z ≤ 32
  few = omega (arith, halve-le 32 n)

  pub doubled : 2 * 2 ^ z % 2 ^ 64 ≡ 2 ^ (z + 1)
  doubled =
      let one : z + 1 ≡ suc z = omega arith in
      let p : 2 ^ (z + 1) ≡ 2 * 2 ^ z = ap (λ (k : ℕ). 2 ^ k) one ∙ pow-suc 2 z ∙ omega arith in
      let l : 2 * 2 ^ z < 2 ^ 64 = omega (arith, place.above) in
      mod-eq_of_lt l ∙ sym p

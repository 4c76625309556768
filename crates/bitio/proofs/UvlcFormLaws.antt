-- Laws of the form of uvlc: its width, and its bits.
use mathlib.Core.Path.{◌≡◌, refl, sym, ap, ap₂, ◌∙◌}
use Prim.Native.Nat.{ℕ, zero, suc, ◌+◌, ◌-◌, ◌*◌, ◌/◌, ◌^◌, ◌<◌, ◌≤◌, max}
use native.Mathlib.Omega.{arith}
use native.Mathlib.Nat.{pow-suc}
use native.Mathlib.Numerals.{add-one}
use native.Mathlib.Decide.{dec_lt}
use mathlib.Core.List.{[], ◌∷◌, ◌++◌, append_assoc}
use borrow.Author.Tests.{le-leb, lt-leb}
use lib.Pow.{pow_mono, pow_pos}
use lib.Arith.{digits_div}
use lib.ListN.{replicate, replicate-append-replicate}
use Rattle.bitio.proofs.UnpackLaws.{bits-join, bits-low}
use Rattle.bitio.specs.Write.{bits_of, halvings, uvlc_zeros, uvlc_width}

-- ---- halving

-- from 2 on there is a halving more
halve-more : (k x : ℕ) → 2 ≤ x → halvings (suc k) x ≡ suc (halvings k (x / 2))
unfolding halvings
halve-more k x h = rw (le-leb 2 x h)

-- below 2 there is none
halve-none : (k x : ℕ) → x < 2 → halvings k x ≡ 0
unfolding halvings
halve-none zero x h = refl
halve-none (suc k) x h = rw (lt-leb 2 x h)

-- the highest bit of x stands at the place 2 ^ z
pub record HighestBit (x z : ℕ) : Type 0 where
  pub above : 2 ^ z ≤ x
  pub below : x < 2 ^ (z + 1)

-- the halvings of x are the place of its highest bit
pub halve-place : (k x : ℕ) → 1 ≤ x → x < 2 ^ suc k → HighestBit x (halvings k x)
unfolding halvings
halve-place zero x h l = record { above = h; below = l }
halve-place (suc k) x h l =
    elim (dec_lt x 2) [
      | yes m ↦ rw (halve-none (suc k) x m) (record { above = h; below = m })
      | no m ↦
          let g : 2 ≤ x = omega arith in
          let i = halve-place k (x / 2) (omega arith) (omega (arith, pow-suc 2 (suc k))) in
          let z = halvings k (x / 2) in
          let a = i.above in
          let b = i.below in
          let e : suc z + 1 ≡ suc (z + 1) = omega arith in
          rw (halve-more k x g)
          (record { above = omega (arith, pow-suc 2 z); below = omega (arith, pow-suc 2 z, pow-suc 2 (z + 1), ap (λ (j : ℕ). 2 ^ j) e) })
    ]

-- at most k halvings
pub halve-le : (k x : ℕ) → halvings k x ≤ k
unfolding halvings
halve-le zero x = omega arith
halve-le (suc k) x =
    elim (dec_lt x 2) [
      | yes m ↦ rw (halve-none (suc k) x m) (omega arith)
      | no m ↦ let g : 2 ≤ x = omega arith in rw (halve-more k x g) (omega (arith, halve-le k (x / 2)))
    ]

-- halving as often as the highest bit of x says
pub halvings_of : (z k x : ℕ) → 2 ^ z ≤ max x 1 → max x 1 < 2 * 2 ^ z → x ≤ 2 ^ k → z ≡ halvings k x
halvings_of zero k x a b h = sym (halve-none k x (omega arith))
halvings_of (suc z) zero x a b h = absurd (omega (arith, pow-suc 2 z, pow_pos z))
halvings_of (suc z) (suc k) x a b h =
    let p : 1 ≤ 2 ^ z = omega (arith, pow_pos z) in
    let e : 2 ^ suc z ≡ 2 ^ z * 2 = pow-suc 2 z in
    let f : 2 ^ suc k ≡ 2 ^ k * 2 = pow-suc 2 k in
    let l : 2 ≤ x = omega arith in
    rw (halve-more k x l) (ap suc (halvings_of z k (x / 2) (omega arith) (omega arith) (omega arith)))

-- ---- uvlc

-- the zeros are as many as the place of the highest bit of v + 1
pub uvlc-place : (v : ℕ) → v + 1 < 2 ^ 33 → HighestBit (v + 1) (uvlc_zeros v)
unfolding uvlc_zeros
uvlc-place v h = halve-place 32 (v + 1) (omega arith) h

-- at most 32 zeros
pub uvlc-most : (v : ℕ) → uvlc_zeros v ≤ 32
unfolding uvlc_zeros
uvlc-most v = halve-le 32 (v + 1)

-- fewer, but for the largest number
pub uvlc-fewer : (v : ℕ) → v + 1 < 2 ^ 32 → uvlc_zeros v < 32
uvlc-fewer v h =
    let p = uvlc-place v (omega arith) in
    elim (dec_lt (uvlc_zeros v) 32) [
      | yes l ↦ l
      | no l ↦ absurd (omega (arith, p.above, pow_mono {i = 32} {j = uvlc_zeros v} (omega arith)))
    ]

-- the bits of 0 are zeros
bits-zeros : (n : ℕ) → bits_of n 0 ≡ replicate n 0
unfolding bits_of
bits-zeros zero = refl
bits-zeros (suc n) = ap (λ l. l ++ (0 ∷ [])) (bits-zeros n) ∙ replicate-append-replicate n 1 0 ∙ ap (λ j. replicate j 0) (add-one n)

-- the bits of 1 are zeros and a one
bits-one : (z : ℕ) → bits_of (suc z) 1 ≡ replicate z 0 ++ (1 ∷ [])
unfolding bits_of
bits-one z = ap (λ l. l ++ (1 ∷ [])) (bits-zeros z)

-- a number with its highest bit at z, in 2 z + 1 bits
bits-form : (z x : ℕ) → HighestBit x z → bits_of (2 * z + 1) x ≡ replicate z 0 ++ (1 ∷ bits_of z (x - 2 ^ z))
bits-form z x h =
    let a = h.above in
    let b = h.below in
    let y = x - 2 ^ z in
    let w : 2 * z + 1 ≡ suc z + z = omega arith in
    let e : x ≡ 1 * 2 ^ z + y = omega arith in
    let l : y < 2 ^ z = omega (arith, pow-suc 2 z, ap (λ (j : ℕ). 2 ^ j) (add-one z)) in
    let d : x / 2 ^ z ≡ 1 = ap (λ (j : ℕ). j / 2 ^ z) e ∙ digits_div 1 l in
    rw (w, bits-join (suc z) z x, d)
    (ap₂ ◌++◌ (bits-one z) (ap (bits_of z) e ∙ bits-low z 1 y) ∙ append_assoc (replicate z 0) (1 ∷ []) (bits_of z y))

-- zeros, a one, and as many bits as zeros
pub uvlc-bits : (v : ℕ) → v + 1 < 2 ^ 33 → bits_of (uvlc_width v) (v + 1) ≡ replicate (uvlc_zeros v) 0 ++ (1 ∷ bits_of (uvlc_zeros v) (v + 1 - 2 ^ uvlc_zeros v))
uvlc-bits v h = bits-form (uvlc_zeros v) (v + 1) (uvlc-place v h)

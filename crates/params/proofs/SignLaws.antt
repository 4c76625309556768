-- The two ways to take a signed number's bits: what AV1's comes to, and where both judge a frame lossless alike.
use Prim.Native.Nat.{ℕ, zero, suc, ◌+◌, ◌-◌, ◌^◌, ◌<◌}
use native.Mathlib.Omega.{arith}
use native.Mathlib.Decide.{dec_lt}
use mathlib.Core.Path.{◌≡◌, refl, sym, ◌∙◌}
use mathlib.Core.Logic.{◌⊎◌, ⊎_elim}
use mathlib.Core.List.{List}
use Rattle.std.specs.List.{list_all}
use mathlib.Core.Bool.{Bool, true, false, cond as pick}
use lib.Dec.{eqb, ltb}
use lib.IntN.{pos, negsuc, ◌-ℤ◌, +ℤ_idl, +ℤ_idr}
use lib.ListN.{replicate}
use borrow.Author.Tests.{lt-ltb, le-ltb, eq-eqb, ne_eqb}
use Rattle.bitio.specs.Every.{Every}
use Rattle.bitio.specs.Every.Every.{nothing, also}
use Rattle.syntax.specs.Signed.{su}
use Rattle.params.specs.declared.quant.Quantizer.{Quantizer}
use Rattle.params.specs.Quantization.{Ranged, quantizer}
use Rattle.params.specs.Lossless.{sign_magnitude, twos_complement, upwards, downwards, is_zero, qindex, no_delta, coded_lossless}

-- ---- two's complement is AV1's su(n)

below : (v w : ℕ) → v < w → pos v -ℤ pos w ≡ pos 0 -ℤ pos (w - v)
below v zero h = absurd (omega arith)
below v (suc w) h =
    let j : suc w - v ≡ suc (suc w - suc v) = omega arith in
    rw (lt-ltb v (suc w) h, j) (sym (+ℤ_idl (negsuc (suc w - suc v))))

pub su-is : (n v : ℕ) → v < 2 ^ (n + 1) → su (n + 1) v ≡ pos (upwards n v) -ℤ pos (downwards twos_complement n v)
su-is n v h = let one : n + 1 - 1 ≡ n = omega arith in rw one (by-test (ltb v (2 ^ n)) refl)
  where
    by-test : (t : Bool) → ltb v (2 ^ n) ≡ t
        → pick (ltb v (2 ^ n)) (pos v) (pos v -ℤ pos (2 ^ (n + 1))) ≡ pos (upwards n v) -ℤ pos (downwards twos_complement n v)
    by-test true e = rw e (sym (+ℤ_idr (pos v)))
    by-test false e = rw e (below v (2 ^ (n + 1)) h)

-- ---- where both agree

-- no delta is a sign alone
pub record NoLoneSign (q : Quantizer) : Type 0 where
  pub y-dc : q.delta_q_y_dc ≡ 64 → ⊥
  pub u-dc : q.delta_q_u_dc ≡ 64 → ⊥
  pub u-ac : q.delta_q_u_ac ≡ 64 → ⊥
  pub v-dc : q.delta_q_v_dc ≡ 64 → ⊥
  pub v-ac : q.delta_q_v_ac ≡ 64 → ⊥

-- the nine bits of a segment that both take alike, or whose index is 0 either way
abbrev pub Alike : ℕ → ℕ → Type 0
Alike base v = (base ≡ 0) ⊎ (v < 256)

zero_same : (v : ℕ) → v < 128 → (v ≡ 64 → ⊥) → is_zero sign_magnitude 6 v ≡ is_zero twos_complement 6 v
zero_same v h n =
    elim (dec_lt v 64) [
      | yes l ↦ rw (lt-ltb v 64 l)
      | no l ↦ rw (le-ltb v 64 (omega arith)) (ne_eqb (0 + (v - 64)) 0 (λ e. n (omega arith)) ∙ sym (ne_eqb (0 + (128 - v)) 0 (λ e. omega arith)))
    ]

index_same : (base v : ℕ) → Alike base v → eqb (qindex sign_magnitude base v) 0 ≡ eqb (qindex twos_complement base v) 0
index_same base v h =
    elim (dec_lt v 256) [
      | yes l ↦ rw (lt-ltb v 256 l)
      | no l ↦
          ⊎_elim
          (λ (z : base ≡ 0).
          rw (le-ltb v 256 (omega arith), z) (eq-eqb (0 + 0 - (v - 256)) 0 (omega arith) ∙ sym (eq-eqb (0 + 0 - (512 - v)) 0 (omega arith))))
          (λ w. absurd (l w))
          h
    ]

all_same : {p r : ℕ → Bool} {l : List ℕ} → Every (λ v. p v ≡ r v) l → list_all p l ≡ list_all r l
all_same nothing = refl
all_same (also e x) = rw (e, all_same x)

every_map : {P Q : ℕ → Type 0} {l : List ℕ} → ((v : ℕ) → P v → Q v) → Every P l → Every Q l
every_map f nothing = nothing
every_map f (also e x) = also (f _ e) (every_map f x)

-- AV1's rule and the Rust's find the same frames lossless
pub rules-agree : (q : Quantizer) {alts : List ℕ} → Ranged q → NoLoneSign q → Every (Alike q.base_q_idx) alts
    → coded_lossless sign_magnitude q alts ≡ coded_lossless twos_complement q alts
unfolding coded_lossless no_delta
rules-agree q r n x =
    rw (
      zero_same q.delta_q_y_dc r.y-dc n.y-dc,
      zero_same q.delta_q_u_dc r.u-dc n.u-dc,
      zero_same q.delta_q_u_ac r.u-ac n.u-ac,
      zero_same q.delta_q_v_dc r.v-dc n.v-dc,
      zero_same q.delta_q_v_ac r.v-ac n.v-ac,
      all_same (every_map (index_same q.base_q_idx) x),
    )

-- ---- where they do not

-- a lone sign: zero to the Rust, -64 to AV1
pub lone-sign : (coded_lossless sign_magnitude (quantizer 0 64 0 0 0 0) (replicate 8 0) ≡ true) × (coded_lossless twos_complement (quantizer 0 64 0 0 0 0) (replicate 8 0) ≡ false)
unfolding coded_lossless no_delta
lone-sign = (refl, refl)

-- a segment's 511: -255 to the Rust, -1 to AV1
pub segment-sign : (coded_lossless sign_magnitude (quantizer 9 0 0 0 0 0) (replicate 8 511) ≡ true) × (coded_lossless twos_complement (quantizer 9 0 0 0 0 0) (replicate 8 511) ≡ false)
unfolding coded_lossless no_delta
segment-sign = (refl, refl)

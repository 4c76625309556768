-- Laws of the file's numbers: read, summed, and written a record a segment.
use Prim.Native.Nat.{ℕ, zero, suc, ◌+◌, ◌-◌, ◌*◌, ◌^◌, ◌≤◌, ◌<◌}
use native.Mathlib.Omega.{arith}
use mathlib.Core.Path.{◌≡◌, refl, sym, ap, ap₂, ◌∙◌}
use mathlib.Core.List.{List, [], ◌++◌}
use lib.ListN.{length, get_or, take, drop}
use lib.Seq.{get_or-take, get_or-drop}
use Rattle.std.specs.Int.{w32, w64, from_le_bytes}
use Rattle.bitio.specs.Lent.{pasted}
use Rattle.bitio.proofs.LentLaws.{pasted-nil, pasted-more, pasted_length}
use Rattle.blocks.specs.Numbers.{width, segment_count}
use Rattle.listing.specs.File.{number_at, u32_at, u64_at, units_length, segment_end, segment_numbers, file_numbers_from}

-- ---- a number's bytes

module _ (s : List ℕ) (at : ℕ) where
  abbrev byte : ℕ → ℕ
  byte i = get_or s (at + i) 0

  byte_of : (n i : ℕ) → i < n → get_or (take n (drop at s)) i 0 ≡ byte i
  byte_of n i h = get_or-take n (drop at s) i 0 h ∙ get_or-drop at s i 0

  pub u32_bytes : from_le_bytes w32 (take 4 (drop at s)) ≡ u32_at s at
  unfolding number_at
  u32_bytes =
      let a : suc at ≡ at + 1 = omega arith in
      let b : suc (suc at) ≡ at + 2 = omega arith in
      let c : suc (suc (suc at)) ≡ at + 3 = omega arith in
      let z : get_or s (at + 0) 0 ≡ get_or s at 0 = ap (λ (k : ℕ). get_or s k 0) (omega arith) in
      rw (c, b, a) (omega (arith, z, byte_of 4 0 (omega arith), byte_of 4 1 (omega arith), byte_of 4 2 (omega arith), byte_of 4 3 (omega arith)))

  pub u64_bytes : from_le_bytes w64 (take 8 (drop at s)) ≡ u64_at s at
  unfolding number_at
  u64_bytes =
      let a : suc at ≡ at + 1 = omega arith in
      let b : suc (suc at) ≡ at + 2 = omega arith in
      let c : suc (suc (suc at)) ≡ at + 3 = omega arith in
      let d : suc (suc (suc (suc at))) ≡ at + 4 = omega arith in
      let e : suc (suc (suc (suc (suc at)))) ≡ at + 5 = omega arith in
      let f : suc (suc (suc (suc (suc (suc at))))) ≡ at + 6 = omega arith in
      let g : suc (suc (suc (suc (suc (suc (suc at)))))) ≡ at + 7 = omega arith in
      let z : get_or s (at + 0) 0 ≡ get_or s at 0 = ap (λ (k : ℕ). get_or s k 0) (omega arith) in
      rw (g, f, e, d, c, b, a) (omega (
        arith,
        z,
        byte_of 8 0 (omega arith),
        byte_of 8 1 (omega arith),
        byte_of 8 2 (omega arith),
        byte_of 8 3 (omega arith),
        byte_of 8 4 (omega arith),
        byte_of 8 5 (omega arith),
        byte_of 8 6 (omega arith),
        byte_of 8 7 (omega arith),
      ))

-- ---- the sum of the lengths

pub record Summing (s : List ℕ) (from count i sum : ℕ) : Type 0 where
  pub within : i ≤ count
  pub small : sum ≤ i * 8589934592
  pub whole : sum + units_length s (count - i) (from + 16 * i) ≡ units_length s count from

module _ {s : List ℕ} {from count i sum : ℕ} (r : Summing s from count i sum) where
  lengths_more : i < count → units_length s (count - i) (from + 16 * i) ≡ u32_at s (from + 16 * i) + u32_at s (from + 16 * i + 4) + units_length s (count - (i + 1)) (from + 16 * (i + 1))
  unfolding units_length
  lengths_more h =
      let k : count - i ≡ suc (count - (i + 1)) = omega arith in
      let a : from + 16 * i + 16 ≡ from + 16 * (i + 1) = omega arith in
      rw k (ap (λ (q : ℕ). u32_at s (from + 16 * i) + u32_at s (from + 16 * i + 4) + units_length s (count - (i + 1)) q) a)

  pub sum_turn : (x y : ℕ) → i < count → x ≡ u32_at s (from + 16 * i) → x < 2 ^ 32 → y ≡ u32_at s (from + 16 * i + 4) → y < 2 ^ 32 → Summing s from count (i + 1) (sum + (x + y))
  sum_turn x y h p a q b =
      record { within = omega arith; small = omega (arith, r.small); whole = omega (arith, r.whole, lengths_more h, p, q) }

  pub sum_end : count ≤ i → sum ≡ units_length s count from
  unfolding units_length
  sum_end h =
      let k : count - i ≡ 0 = omega arith in
      let z : units_length s (count - i) (from + 16 * i) ≡ 0 = rw k in
      omega (arith, r.whole, z)

-- ---- a record a segment

numbers_none : (s : List ℕ) (q a : ℕ) → file_numbers_from s 0 q a ≡ []
unfolding file_numbers_from
numbers_none s q a = refl

numbers_more : (s : List ℕ) (k q a : ℕ) → file_numbers_from s (suc k) q a ≡ segment_numbers s q a ++ file_numbers_from s k (q + 16) (segment_end s q a)
unfolding file_numbers_from
numbers_more s k q a = refl

pub numbers_length : (s : List ℕ) (k q a : ℕ) → length (file_numbers_from s k q a) ≡ width * k
numbers_length s zero q a = ap length (numbers_none s q a)
numbers_length s (suc k) q a =
    let i = numbers_length s k (q + 16) (segment_end s q a) in
    ap length (numbers_more s k q a) ∙ omega (arith, i)

-- i segments are written, the next key starting at a: what stands there, with what is left, is the whole
pub record Numbering (s d₀ : List ℕ) (from count : ℕ) (d : List ℕ) (i a : ℕ) : Type 0 where
  pub within : i ≤ count
  pub small : a ≤ i * 8589934592
  pub kept : length d ≡ length d₀
  pub same : pasted d (width * i) (file_numbers_from s (count - i) (from + 16 * i) a) ≡ pasted d₀ 0 (file_numbers_from s count from 0)

module _ {s d₀ : List ℕ} {from count : ℕ} {d : List ℕ} {i a : ℕ} (r : Numbering s d₀ from count d i a) where
  pub numbering_turn : (d' : List ℕ) (b : ℕ) → i < count → count ≤ segment_count d₀ → (b ≡ segment_end s (from + 16 * i) a) × (b < a + 2 ^ 33)
      → d' ≡ pasted d (width * i) (segment_numbers s (from + 16 * i) a) → Numbering s d₀ from count d' (i + 1) b
  numbering_turn d' b h room e w =
      let q : from + 16 * i + 16 ≡ from + 16 * (i + 1) = omega arith in
      let k : count - i ≡ suc (count - (i + 1)) = omega arith in
      let t : width * i + width ≡ width * (i + 1) = omega arith in
      let x = segment_numbers s (from + 16 * i) a in
      let y = file_numbers_from s (count - (i + 1)) (from + 16 * (i + 1)) b in
      let m : file_numbers_from s (count - i) (from + 16 * i) a ≡ x ++ y =
      ap (λ (n : ℕ). file_numbers_from s n (from + 16 * i) a) k ∙ numbers_more s (count - (i + 1)) (from + 16 * i) a
      ∙ ap₂ (λ (n o : ℕ). x ++ file_numbers_from s (count - (i + 1)) n o) q (sym e.0) in
      record {
        within = omega arith;
        small = omega (arith, e.1, r.small);
        kept = ap length w ∙ pasted_length d (width * i) x (omega (arith, r.kept)) ∙ r.kept;
        same =
            ap₂ (λ (l : List ℕ) (n : ℕ). pasted l n y) w (sym t) ∙ pasted-more d (width * i) x (omega (arith, r.kept)) y ∙ ap (pasted d (width * i)) (sym m) ∙ r.same;
      }

  pub numbering_end : count ≤ i → d ≡ pasted d₀ 0 (file_numbers_from s count from 0)
  numbering_end h =
      let k : count - i ≡ 0 = omega arith in
      let z : file_numbers_from s (count - i) (from + 16 * i) a ≡ [] = ap (λ (n : ℕ). file_numbers_from s n (from + 16 * i) a) k ∙ numbers_none s (from + 16 * i) a in
      sym (pasted-nil d (width * i)) ∙ ap (pasted d (width * i)) (sym z) ∙ r.same

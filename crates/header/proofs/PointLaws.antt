-- Laws of the operating points: a loop that reads them into an array.
use Prim.Native.Nat.{ℕ, zero, suc, ◌+◌, ◌-◌, ◌≤◌, ◌<◌}
use native.Mathlib.Omega.{arith}
use native.Mathlib.Numerals.{add-one}
use mathlib.Core.Path.{◌≡◌, refl, ap, ◌∙◌}
use mathlib.Core.List.{List, ◌∷◌, ◌++◌}
use lib.ListN.{length, set, drop, replicate}
use lib.Seq.{sets, sets-eq}
use Rattle.bitio.specs.Bits.{Reading, fails, reads, and_then}
use Rattle.header.specs.SequencePoints.{operating_point, operating_points, no_point, padded}
use Rattle.header.specs.declared.seq_header.Opening.{Opening}
use Rattle.header.specs.declared.seq_header.OperatingPoint.{OperatingPoint}
use Rattle.header.proofs.ReadLaws.{Holds, then-any, then-holds}

-- what is read into the array ps from place i on
abbrev pub filled : List OperatingPoint → ℕ → Reading (List OperatingPoint) → Reading (List OperatingPoint)
filled ps i x = and_then x (λ xs p. reads (sets ps i xs) p)

module _ (s : List ℕ) (o : Opening) where
  -- there are as many as asked
  pub points-count : (k p : ℕ) → Holds (λ xs. length xs ≡ k) (operating_points k s p o)
  unfolding operating_points
  points-count zero p = refl
  points-count (suc k) p =
      then-any (λ xs. length xs ≡ suc k) (operating_point s p o) _ (λ x q.
      then-holds (λ xs. length xs ≡ k) (λ xs. length xs ≡ suc k) (operating_points k s q o) _ (points-count k q) (λ xs r e. ap suc e))

  module _ (ps : List OperatingPoint) (count i p : ℕ) where
    -- one more of those that are left
    module _ (h : i < count) where
      left : count - i ≡ suc (count - (i + 1))
      left = omega arith

      pub fill_more : (x : OperatingPoint) (q : ℕ) → operating_point s p o ≡ reads x q
          → filled ps i (operating_points (count - i) s p o) ≡ filled (set ps i x) (i + 1) (operating_points (count - (i + 1)) s q o)
      unfolding operating_points
      fill_more x q e = rw (left, e, add-one i) (go (operating_points (count - suc i) s q o))
        where
          go : (y : Reading (List OperatingPoint)) → filled ps i (and_then y (λ xs r. reads (x ∷ xs) r)) ≡ filled (set ps i x) (suc i) y
          go (fails k) = refl
          go (reads xs r) = refl

      -- it is cut off
      pub fill-short : (e : ℕ) → operating_point s p o ≡ fails e → filled ps i (operating_points (count - i) s p o) ≡ fails e
      unfolding operating_points
      fill-short e h = rw (left, h)

    -- none is left
    pub fill_end : count ≤ i → filled ps i (operating_points (count - i) s p o) ≡ reads ps p
    unfolding operating_points
    fill_end h = let z : count - i ≡ 0 = omega arith in rw z

drop-replicate : {A : Type 0} (k m : ℕ) (x : A) → k ≤ m → drop k (replicate m x) ≡ replicate (m - k) x
drop-replicate zero m x h = let z : m - 0 ≡ m = omega arith in rw z
drop-replicate (suc k) zero x h = absurd (omega arith)
drop-replicate (suc k) (suc m) x h =
    let e : m - k ≡ suc m - suc k = omega arith in
    drop-replicate k m x (omega arith) ∙ ap (λ j. replicate j x) e

-- up to 32 of them in an array of zeros, and zeros behind them
pub fill_start : (k p : ℕ) (s : List ℕ) (o : Opening) {x : OperatingPoint} → x ≡ no_point → k ≤ 32
    → filled (replicate 32 x) 0 (operating_points k s p o) ≡ and_then (operating_points k s p o) (λ xs p. reads (padded xs) p)
unfolding padded
fill_start k p s o z h = rw z (go (operating_points k s p o) (points-count s o k p))
  where
    go : (y : Reading (List OperatingPoint)) → Holds (λ xs. length xs ≡ k) y → filled (replicate 32 no_point) 0 y ≡ and_then y (λ xs p. reads (xs ++ replicate (32 - length xs) no_point) p)
    go (fails j) e = refl
    go (reads xs q) e =
        let z : 0 + length xs ≡ length xs = omega arith in
        ap (λ l. reads l q)
        (sets-eq xs (replicate 32 no_point) 0 (omega arith)
        ∙ ap (λ j. xs ++ drop j (replicate 32 no_point)) z
        ∙ ap (λ l. xs ++ l) (drop-replicate (length xs) 32 no_point (omega arith)))

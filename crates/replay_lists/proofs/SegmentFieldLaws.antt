-- Laws of what a request to assemble lends: its segments' records, and slices that are marked.
use Rattle.std.proofs.Common.{◌≡◌, refl, sym, ap, ◌∙◌, List, ◌++◌, ℕ, zero, suc, ◌+◌, ◌-◌, ◌*◌, ◌≤◌, ◌<◌, min, length, take, replicate, add-one, arith, length-append}
use mathlib.Core.List.{append-nil}
use lib.ListN.{drop_of_length-le}
use Rattle.std.proofs.lemmas.List.{length-replicate, length-take-le, take-replicate}
use Rattle.bitio.specs.Lent.{pasted}
use Rattle.bitio.proofs.LentLaws.{pasted-nil, pasted-more}
use Rattle.blocks.specs.Numbers.{width, segment_count}
use Rattle.assemble.specs.Whole.{six}
use Rattle.replay_lists.specs.Lists.{segment_record, segment_records}

module _ (es fs : List ℕ) where
  records_next : (n i : ℕ) → i < n → segment_records es fs i (n - i) ≡ segment_record es fs i ++ segment_records es fs (i + 1) (n - (i + 1))
  unfolding segment_records
  records_next n i h =
      let z : n - i ≡ suc (n - (i + 1)) = omega arith in
      ap (segment_records es fs i) z ∙ ap (λ j. segment_record es fs i ++ segment_records es fs j (n - (i + 1))) (sym (add-one i))

  records_length : (i k : ℕ) → length (segment_records es fs i k) ≡ width * k
  unfolding segment_records
  records_length i zero = refl
  records_length i (suc k) = let e = records_length (suc i) k in length-append (segment_record es fs i) (segment_records es fs (suc i) k) ∙ omega (arith, e)

  -- one record more
  pub record_next : (n i : ℕ) (d : List ℕ) → i < n → width * i + width ≤ length d
      → pasted (pasted d (width * i) (segment_record es fs i)) (width * (i + 1)) (segment_records es fs (i + 1) (n - (i + 1)))
      ≡ pasted d (width * i) (segment_records es fs i (n - i))
  record_next n i d h room =
      let rest = segment_records es fs (i + 1) (n - (i + 1)) in
      let z : width * (i + 1) ≡ width * i + width = omega arith in
      ap (λ w. pasted (pasted d (width * i) (segment_record es fs i)) w rest) z
      ∙ pasted-more d (width * i) (segment_record es fs i) (omega arith) rest
      ∙ ap (pasted d (width * i)) (sym (records_next n i h))

  pub records_end : (n i : ℕ) (d : List ℕ) → n ≤ i → d ≡ pasted d (width * i) (segment_records es fs i (n - i))
  unfolding segment_records
  records_end n i d h = let z : n - i ≡ 0 = omega arith in sym (ap (λ k. pasted d (width * i) (segment_records es fs i k)) z ∙ pasted-nil d (width * i))

  -- room for just these
  pub records_whole : (d : List ℕ) (k : ℕ) → length d ≡ width * k → pasted d 0 (segment_records es fs 0 (segment_count d)) ≡ segment_records es fs 0 k
  unfolding pasted
  records_whole d k e =
      let z : segment_count d ≡ k = omega arith in
      let l = records_length 0 k in
      ap (λ j. pasted d 0 (segment_records es fs 0 j)) z
      ∙ ap (λ x. segment_records es fs 0 k ++ x) (drop_of_length-le d {i = 0 + length (segment_records es fs 0 k)} (omega arith))
      ∙ append-nil (segment_records es fs 0 k)

pub zeros_length : (n j : ℕ) → j ≤ n → length {A = ℕ} (take j (replicate n 0)) ≡ j
zeros_length n j h = length-take-le j (replicate n 0) (omega (arith, length-replicate {A = ℕ}))

-- so many of m marks
pub marks_taken : (n m x : ℕ) {k : ℕ} → k ≡ min n m → take k (replicate m x) ≡ replicate (min n m) x
marks_taken n m x e = rw e (take-replicate (min n m) m x (omega arith))

pub same_slices : (e s h : List ℕ) {l m c d p q : List ℕ} → l ≡ m → c ≡ d → p ≡ q → six l c p e s h ≡ six m d q e s h
same_slices e s h i j k = rw (i, j, k)

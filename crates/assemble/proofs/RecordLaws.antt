-- Laws of segments as structs: their records put one after the other, and assembly from these.
use Prim.Native.Nat.{ℕ, ◌+◌, ◌*◌, ◌≤◌, ◌<◌}
use native.Mathlib.Omega.{arith}
use native.Mathlib.Numerals.{add-one}
use mathlib.Core.Path.{◌≡◌, refl, sym, ap, ◌∙◌}
use mathlib.Core.List.{List, [], ◌∷◌, ◌++◌}
use mathlib.Core.Option.{none}
use lib.ListN.{length, get_or, take, drop, length-append, drop_of_length-le}
use lib.Seq.{drop-cons}
use borrow.Author.Tests.{le-leb, lt-leb, lt-ltb, le-ltb}
use Rattle.bitio.specs.Limits.{limit}
use Rattle.bitio.specs.Lent.{pasted}
use Rattle.bitio.proofs.LentLaws.{pasted-nil, pasted-more, pasted_length, pasted-front}
use Rattle.blocks.specs.Numbers.{width, record_of, no_segment, segment_count}
use Rattle.blocks.specs.declared.numbers.Segment.{Segment as SegmentStruct}
use Rattle.pictures.specs.Assemble.{stopped}
use Rattle.pictures.specs.declared.settings.Settings.{Settings}
use Rattle.assemble.specs.Whole.{Lent, outcome}
use Rattle.assemble.specs.Records.{numbers_of, numbers_after, no_room, records_outcome}

-- ---- the records of all segments

pub numbers-length : (xs : List SegmentStruct) → length (numbers_of xs) ≡ width * length xs
unfolding numbers_of
numbers-length [] = refl
numbers-length (x ∷ xs) = let e = numbers-length xs in length-append (record_of x) (numbers_of xs) ∙ omega (arith, e)

numbers-nil : numbers_of [] ≡ []
unfolding numbers_of
numbers-nil = refl

numbers-cons : (x : SegmentStruct) (xs : List SegmentStruct) → numbers_of (x ∷ xs) ≡ record_of x ++ numbers_of xs
unfolding numbers_of
numbers-cons x xs = refl

module _ (xs : List SegmentStruct) (d : List ℕ) (i : ℕ) where
  -- one record more
  pub record-next : i < length xs → width * i + width ≤ length d
      → pasted (pasted d (width * i) (record_of (get_or xs i no_segment))) (width * (i + 1)) (numbers_of (drop (i + 1) xs)) ≡ pasted d (width * i) (numbers_of (drop i xs))
  record-next h room =
      let x = get_or xs i no_segment in
      let rest = numbers_of (drop (i + 1) xs) in
      let k : width * (i + 1) ≡ width * i + width = omega arith in
      let behind : drop i xs ≡ x ∷ drop (i + 1) xs = drop-cons xs i no_segment h ∙ ap (λ (k : ℕ). x ∷ drop k xs) (sym (add-one i)) in
      ap (λ (n : ℕ). pasted (pasted d (width * i) (record_of x)) n rest) k
      ∙ pasted-more d (width * i) (record_of x) (omega arith) rest
      ∙ ap (pasted d (width * i)) (sym (ap numbers_of behind ∙ numbers-cons x (drop (i + 1) xs)))

  pub records-end : length xs ≤ i → d ≡ pasted d (width * i) (numbers_of (drop i xs))
  records-end h =
      sym (ap (λ (l : List SegmentStruct). pasted d (width * i) (numbers_of l)) (drop_of_length-le xs {i = i} h) ∙ ap (pasted d (width * i)) numbers-nil ∙ pasted-nil d (width * i))

-- ---- what the lent numbers hold afterwards

module _ (xs : List SegmentStruct) (d : List ℕ) where
  pub after-none : segment_count d < length xs → d ≡ numbers_after xs d
  unfolding numbers_after
  after-none h = rw (lt-leb (length xs) (segment_count d) h)

  module _ (h : length xs ≤ segment_count d) where
    pub after-all : pasted d 0 (numbers_of xs) ≡ numbers_after xs d
    unfolding numbers_after
    after-all = rw (le-leb (length xs) (segment_count d) h)

    pub records-within : width * length xs ≤ length (pasted d 0 (numbers_of xs))
    records-within = let n = numbers-length xs in let k = pasted_length d 0 (numbers_of xs) (omega (arith, n)) in omega (arith, k)

-- ---- assembly from them

module _ (s : List ℕ) (xs : List SegmentStruct) (d : List ℕ) (set : Settings) (l : Lent) where
  module _ (h : segment_count d < length xs) where
    pub records-long : limit < length s → stopped 34 none ≡ records_outcome s xs d set l
    unfolding records_outcome no_room
    records-long m = simp (lt-leb (length xs) (segment_count d) h, lt-ltb limit (length s) m)

    pub records-refused : length s ≤ limit → stopped 35 none ≡ records_outcome s xs d set l
    unfolding records_outcome no_room
    records-refused m = simp (lt-leb (length xs) (segment_count d) h, le-ltb limit (length s) m)

  pub records-made : (rs : List ℕ) → length xs ≤ segment_count d → rs ≡ take (width * length xs) (pasted d 0 (numbers_of xs)) → outcome s rs set l ≡ records_outcome s xs d set l
  unfolding records_outcome
  records-made rs h e =
      let n = numbers-length xs in
      ap (λ (ns : List ℕ). outcome s ns set l) (e ∙ pasted-front d (numbers_of xs) (width * length xs) (omega (arith, n))) ∙ simp (le-leb (length xs) (segment_count d) h)

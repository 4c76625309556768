-- Laws of the segments' ranges, judged one segment after the other.
use Prim.Native.Nat.{ℕ, zero, suc, ◌+◌}
use mathlib.Core.Path.{◌≡◌, refl, sym, ap, ◌∙◌}
use mathlib.Core.List.{List}
use mathlib.Core.Bool.{Bool, true, false, cond as pick, ◌&&◌}
use Rattle.std.specs.List.{list_all, range_with_len}
use Rattle.bitio.specs.Parse.{Answer, refused, accepted, and_next, onto}
use Rattle.blocks.specs.Numbers.{head_inside, rest, segment_count, is_whole, record_at}
use Rattle.blocks.proofs.NumberLaws.{rest_at}
use Rattle.pictures.specs.Segments.{Segment, segment_at, segments_from, segments_of}
use Rattle.pictures.specs.Assemble.{verdict}

-- ---- one segment after the other

verdict-onto : (x : Segment) (a : Answer (List Segment)) → verdict (onto x a) ≡ verdict a
verdict-onto x (refused k) = refl
verdict-onto x (accepted xs) = refl

from-fit : (s rs : List ℕ) (k : ℕ) → head_inside s rs ≡ true → verdict (segments_from s (suc k) rs) ≡ verdict (segments_from s k (rest rs))
unfolding segments_from segment_at and_next
from-fit s rs k e = rw e (verdict-onto _ (segments_from s k (rest rs)))

from-unfit : (s rs : List ℕ) (k : ℕ) → head_inside s rs ≡ false → verdict (segments_from s (suc k) rs) ≡ refused 36
unfolding segments_from segment_at and_next
from-unfit s rs k e = rw e

from-none : (s rs : List ℕ) → verdict (segments_from s 0 rs) ≡ accepted tt
unfolding segments_from
from-none s rs = refl

-- all segments from i on lie within s, up to k of them
abbrev pub all_inside : (s rs : List ℕ) → (i k : ℕ) → Bool
all_inside s rs i k = list_all (λ j. head_inside s (record_at rs j)) (range_with_len i k)

-- 36 where the test fails
abbrev pub fits : Bool → Answer Unit
fits t = pick t (accepted tt) (refused 36)

fits-from : (s rs : List ℕ) (k i : ℕ) → verdict (segments_from s k (record_at rs i)) ≡ fits (all_inside s rs i k)
fits-from s rs zero i = from-none s (record_at rs i)
fits-from s rs (suc k) i = go (fits-from s rs k (i + 1)) (head_inside s (record_at rs i)) refl
  where
    go : verdict (segments_from s k (record_at rs (i + 1))) ≡ fits (all_inside s rs (i + 1) k) → (t : Bool) → head_inside s (record_at rs i) ≡ t
        → verdict (segments_from s (suc k) (record_at rs i)) ≡ fits (t && all_inside s rs (i + 1) k)
    go more true e = from-fit s (record_at rs i) k e ∙ ap (λ (l : List ℕ). verdict (segments_from s k l)) (rest_at rs i) ∙ more
    go more false e = from-unfit s (record_at rs i) k e

pub fits-all : (s rs : List ℕ) → is_whole rs ≡ true → (t : Bool) → all_inside s rs 0 (segment_count rs) ≡ t → fits t ≡ verdict (segments_of s rs)
unfolding segments_of
fits-all s rs h t e = sym (rw h (fits-from s rs (segment_count rs) 0 ∙ ap fits e))

pub not-whole : (s rs : List ℕ) → is_whole rs ≡ false → refused 36 ≡ verdict (segments_of s rs)
unfolding segments_of
not-whole s rs h = rw h

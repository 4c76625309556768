-- Laws of the segments' records: one after the other, and by index.
use Prim.Native.Nat.{ℕ, zero, suc, ◌+◌, ◌*◌, ◌-◌, ◌≤◌, ◌<◌}
use native.Mathlib.Omega.{arith}
use mathlib.Core.Path.{◌≡◌, refl, sym, ap, ◌∙◌}
use mathlib.Core.List.{List, [], ◌∷◌, ◌++◌}
use lib.ListN.{length, get_or, set, take, drop, length-map}
use lib.Seq.{get_or-drop, drop-drop, length-take-le, drop_at}
use Rattle.bitio.specs.Lent.{pasted}
use Rattle.bitio.proofs.LentLaws.{pasted-sets}
use Rattle.blocks.specs.Numbers.{width, record_of, head_segment, head_frames, rest, segment_count, first_records, record_at, records_from, records, records_behind, frames_in}
use Rattle.blocks.specs.declared.numbers.Segment.{Segment}

-- ---- one after the other

pub behind-start : (rs : List ℕ) → records_behind rs 0 ≡ records rs
behind-start rs = let z : segment_count rs - 0 ≡ segment_count rs = omega arith in ap (λ (k : ℕ). records_from k rs) z

pub behind-end : (rs : List ℕ) (i : ℕ) → segment_count rs ≤ i → records_behind rs i ≡ []
unfolding records_from
behind-end rs i h = let z : segment_count rs - i ≡ 0 = omega arith in ap (λ (k : ℕ). records_from k (record_at rs i)) z

pub rest_at : (rs : List ℕ) (i : ℕ) → rest (record_at rs i) ≡ record_at rs (i + 1)
rest_at rs i = let z : width * i + width ≡ width * (i + 1) = omega arith in drop-drop width (width * i) rs ∙ ap (λ (k : ℕ). drop k rs) z

pub behind_more : (rs : List ℕ) (i : ℕ) → i < segment_count rs → records_behind rs i ≡ record_at rs i ∷ records_behind rs (i + 1)
unfolding records_from
behind_more rs i h =
    let z : segment_count rs - i ≡ suc (segment_count rs - (i + 1)) = omega arith in
    ap (λ (k : ℕ). records_from k (record_at rs i)) z ∙ ap (λ (l : List ℕ). record_at rs i ∷ records_from (segment_count rs - (i + 1)) l) (rest_at rs i)

pub records-length : (k : ℕ) (rs : List ℕ) → length (records_from k rs) ≡ k
unfolding records_from
records-length zero rs = refl
records-length (suc k) rs = ap suc (records-length k (rest rs))

pub frames-length : (rs : List ℕ) → length (frames_in rs) ≡ segment_count rs
frames-length rs = length-map (records rs) head_frames ∙ records-length (segment_count rs) rs

-- ---- a segment and its record

number_at : (rs : List ℕ) (i j : ℕ) → get_or rs (width * i + j) 0 ≡ get_or (record_at rs i) j 0
number_at rs i j = sym (get_or-drop (width * i) rs j 0)

pub record-put : (d : List ℕ) (at : ℕ) (x : Segment) → at + width ≤ length d
    → set (set (set (set (set d at x.key_start) (at + 1) x.key_end) (at + 2) x.golden_start) (at + 3) x.golden_end) (at + 4) x.frames ≡ pasted d at (record_of x)
record-put d at x h =
    let i : at + 1 ≡ suc at = omega arith in
    let j : at + 2 ≡ suc (suc at) = omega arith in
    let k : at + 3 ≡ suc (suc (suc at)) = omega arith in
    let l : at + 4 ≡ suc (suc (suc (suc at))) = omega arith in
    rw (i, j, k, l) (pasted-sets d at (record_of x) (omega arith))

-- what was put as record i is read there
pub segment-back : (d : List ℕ) (i : ℕ) (x : Segment) → i < segment_count d → head_segment (record_at (pasted d (width * i) (record_of x)) i) ≡ x
unfolding pasted
segment-back d i x h =
    let l = length-take-le (width * i) d (omega arith) in
    ap head_segment (drop_at (take (width * i) d) (record_of x ++ drop (width * i + width) d) (width * i) l)

-- the other way: the first records are those of the segments read
pub first_more : (k : ℕ) (rs : List ℕ) → width ≤ length rs → first_records (suc k) rs ≡ record_of (head_segment rs) ++ first_records k (rest rs)
first_more k [] h = absurd (omega arith)
first_more k (a ∷ []) h = absurd (omega arith)
first_more k (a ∷ b ∷ []) h = absurd (omega arith)
first_more k (a ∷ b ∷ c ∷ []) h = absurd (omega arith)
first_more k (a ∷ b ∷ c ∷ d ∷ []) h = absurd (omega arith)
first_more k (a ∷ b ∷ c ∷ d ∷ n ∷ rs) h =
    let z : width * suc k ≡ suc (suc (suc (suc (suc (width * k))))) = omega arith in
    ap (λ (m : ℕ). take m (a ∷ b ∷ c ∷ d ∷ n ∷ rs)) z

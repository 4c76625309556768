-- Laws of cues counted: as many as key units, wherever they stand.
use Prim.Native.Nat.{ℕ, suc, ◌+◌, ◌*◌, ◌%◌, ◌≤◌, ◌<◌}
use native.Mathlib.Omega.{arith}
use native.Mathlib.Numerals.{add-one}
use mathlib.Core.Path.{◌≡◌, refl, ap, ◌∙◌}
use mathlib.Core.List.{List, [], ◌∷◌, ◌++◌, map}
use mathlib.Core.Bool.{Bool, true, false, cond as pick}
use lib.ListN.{length, length-append, length-map}
use lib.Dec.{eqb}
use Rattle.blocks.specs.Blocks.{Kind, code, block, kinds, positions, is_key_entry, number, layout, list_of, total}
use Rattle.blocks.specs.declared.block.Block.{Block}
use Rattle.blocks.specs.declared.block.Blocks.{Blocks}
use Rattle.blocks.specs.code.Steps.{units_left, IsNext}
use Rattle.blocks.specs.Numbers.{head_frames, segment_count, records_behind, frames_at, frames_in}
use Rattle.blocks.specs.code.Lay.{entries_of, cues_from, block_cue}
use Rattle.blocks.proofs.NumberLaws.{behind-start, behind-end, behind_more}
use Rattle.blocks.proofs.BlockLaws.{length-layout}
use Rattle.blocks.proofs.LayLaws.{cues-append, next-cue, units_none, next-some, next-left, units_more, entries-append}
use Rattle.blocks.proofs.ListLaws.{entries_from, list-more, list-none}

-- ---- positions counted

pub count-anywhere : {A : Type 0} (is : A → Bool) (p q : ℕ) (l : List A) → length (positions is p l) ≡ length (positions is q l)
unfolding positions
count-anywhere is p q [] = refl
count-anywhere {A} is p q (a ∷ l) = go (count-anywhere is (suc p) (suc q) l) (is a)
  where
    go : length (positions is (suc p) l) ≡ length (positions is (suc q) l) → (t : Bool)
        → length (pick t (p ∷ positions is (suc p) l) (positions is (suc p) l)) ≡ length (pick t (q ∷ positions is (suc q) l) (positions is (suc q) l))
    go e true = ap suc e
    go e false = e

pub count_most : {A : Type 0} (is : A → Bool) (p : ℕ) (l : List A) → length (positions is p l) ≤ length l
unfolding positions
count_most is p [] = omega arith
count_most {A} is p (a ∷ l) = go (count_most is (suc p) l) (is a)
  where
    go : length (positions is (suc p) l) ≤ length l → (t : Bool) → length (pick t (p ∷ positions is (suc p) l) (positions is (suc p) l)) ≤ suc (length l)
    go e true = omega arith
    go e false = omega arith

-- how many cues entries have
abbrev pub cue_count : List ℕ → ℕ
cue_count xs = length (cues_from 0 xs)

pub count-append : (xs ys : List ℕ) → cue_count (xs ++ ys) ≡ cue_count xs + cue_count ys
count-append xs ys =
    let e = ap length (cues-append 0 xs ys) in
    let k = length-append (cues_from 0 xs) (cues_from (0 + length xs) ys) in
    let m = count-anywhere is_key_entry (suc (0 + length xs)) 1 ys in
    omega arith

-- the segment does not matter
count-cons : (x y : ℕ) (xs ys : List ℕ) → is_key_entry x ≡ is_key_entry y → cue_count xs ≡ cue_count ys → cue_count (x ∷ xs) ≡ cue_count (y ∷ ys)
unfolding positions
count-cons x y xs ys e h =
    let a = count-anywhere is_key_entry 2 1 xs in
    let b = count-anywhere is_key_entry 2 1 ys in
    rw e (go (is_key_entry y) (omega arith))
  where
    go : (t : Bool) → length (positions is_key_entry 2 xs) ≡ length (positions is_key_entry 2 ys)
        → length (pick t (1 ∷ positions is_key_entry 2 xs) (positions is_key_entry 2 xs)) ≡ length (pick t (1 ∷ positions is_key_entry 2 ys) (positions is_key_entry 2 ys))
    go true e = ap suc e
    go false e = e

pub count-segment : (i : ℕ) (ks : List Kind) → cue_count (entries_of i ks) ≡ cue_count (entries_of 0 ks)
count-segment i [] = refl
count-segment i (k ∷ ks) =
    let e : (i * 4 + code k) % 4 ≡ (0 * 4 + code k) % 4 = omega arith in
    count-cons (i * 4 + code k) (0 * 4 + code k) (entries_of i ks) (entries_of 0 ks) (ap (λ (n : ℕ). eqb n 0) e) (count-segment i ks)

count_none : cue_count [] ≡ 0
unfolding positions
count_none = refl

-- ---- a cue

cue-most : (key : Bool) → length (block_cue key 0) ≤ 1
cue-most true = omega arith
cue-most false = omega arith

-- ---- a segment's cues

-- n are counted of a segment's blocks s₀, at s
pub record CountingSegment (s₀ : Blocks) (n : ℕ) (s : Blocks) : Type 0 where
  pub sum : n + cue_count (entries_of 0 (units_left s)) ≡ cue_count (entries_of 0 (units_left s₀))
  pub small : n + s.left ≤ s₀.left

module _ {s₀ : Blocks} {n : ℕ} {s : Blocks} (w : CountingSegment s₀ n s) where
  pub counting-end : s.left ≡ 0 → n ≡ cue_count (entries_of 0 (units_left s₀))
  counting-end z =
      let e : cue_count (entries_of 0 (units_left s)) ≡ 0 = ap (λ (l : List Kind). cue_count (entries_of 0 l)) (units_none s z) ∙ count_none in
      omega (arith, w.sum, e)

  pub counting-turn : {b : Block} {t : Blocks} (n' : ℕ) → IsNext s b t → n' ≡ n + length (block_cue b.key 0) → CountingSegment s₀ n' t
  counting-turn {b} {t} n' h e =
      let a = ap (λ (l : List Kind). cue_count (entries_of 0 l)) (units_more h) in
      let m = ap cue_count (entries-append 0 (block b.key b.size) (units_left t)) in
      let k = count-append (entries_of 0 (block b.key b.size)) (entries_of 0 (units_left t)) in
      let q = ap length (next-cue 0 0 h) in
      let u = cue-most b.key in
      record { sum = omega (arith, w.sum, e, a, m, k, q); small = omega (arith, w.small, e, u, next-left h, next-some h) }

-- ---- all segments' cues

pub record CountingAll (gop : ℕ) (rs : List ℕ) (i n : ℕ) : Type 0 where
  pub within : i ≤ segment_count rs
  pub sum : n + cue_count (entries_from gop rs i) ≡ cue_count (list_of gop (frames_in rs))

pub all_start : (gop : ℕ) (rs : List ℕ) → CountingAll gop rs 0 0
all_start gop rs =
    record { within = omega arith; sum = omega (arith, ap (λ (l : List (List ℕ)). cue_count (map number (layout gop 0 (map head_frames l)))) (behind-start rs)) }

pub all_most : (gop : ℕ) (rs : List ℕ) → 1 ≤ gop → cue_count (list_of gop (frames_in rs)) ≤ total (frames_in rs)
all_most gop rs g =
    omega (arith, count_most is_key_entry 1 (list_of gop (frames_in rs)), length-map (layout gop 0 (frames_in rs)) number, length-layout gop 0 (frames_in rs) g)

module _ {gop : ℕ} {rs : List ℕ} {i n : ℕ} (s : CountingAll gop rs i n) where
  pub all_end : segment_count rs ≤ i → n ≡ cue_count (list_of gop (frames_in rs))
  all_end h =
      let e : cue_count (entries_from gop rs i) ≡ 0 =
      ap (λ (l : List (List ℕ)). cue_count (map number (layout gop i (map head_frames l)))) (behind-end rs i h) ∙ ap cue_count (list-none gop i) ∙ count_none in
      omega (arith, s.sum, e)

  module _ (h : i < segment_count rs) where
    abbrev mine : ℕ
    mine = cue_count (entries_of 0 (kinds gop (frames_at rs i)))

    parts : cue_count (entries_from gop rs i) ≡ mine + cue_count (entries_from gop rs (i + 1))
    parts =
        let frames = frames_at rs i in
        let ns = map head_frames (records_behind rs (i + 1)) in
        let a = ap (λ (l : List (List ℕ)). cue_count (map number (layout gop i (map head_frames l)))) (behind_more rs i h) in
        let b = ap cue_count (list-more gop i frames ns) in
        let k = count-append (entries_of i (kinds gop frames)) (map number (layout gop (suc i) ns)) in
        let m = count-segment i (kinds gop frames) in
        let z = ap (λ (j : ℕ). cue_count (map number (layout gop j ns))) (add-one i) in
        omega (arith, a, b, k, m, z)

    pub all_small : (r : ℕ) → 1 ≤ gop → r ≡ mine → n + r ≤ total (frames_in rs)
    all_small r g e = omega (arith, s.sum, parts, all_most gop rs g)

    pub all-turn : (r : ℕ) → r ≡ mine → CountingAll gop rs (i + 1) (n + r)
    all-turn r e = record { within = omega arith; sum = omega (arith, s.sum, parts) }

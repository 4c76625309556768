-- Laws of the frames ordered: their saturated total, the first segment without frames, and the refusals in their order.
use Prim.Native.Nat.{ℕ, zero, suc, ◌+◌, ◌-◌, ◌^◌, ◌≤◌, ◌<◌}
use native.Mathlib.Omega.{arith}
use native.Mathlib.Numerals.{add-one}
use mathlib.Core.Path.{◌≡◌, refl, sym, ap, ◌∙◌}
use mathlib.Core.List.{List, [], ◌∷◌, map}
use mathlib.Core.Bool.{Bool, true, false, cond as pick}
use mathlib.Core.Option.{none, some}
use lib.ListN.{length}
use lib.Dec.{eqb}
use borrow.Author.Tests.{lt-ltb, le-ltb}
use Rattle.bitio.specs.Limits.{capped}
use Rattle.blocks.specs.Blocks.{total}
use Rattle.blocks.specs.Numbers.{head_frames, segment_count, records_behind, frames_at, frames_in}
use Rattle.pictures.specs.Assemble.{Outcome, stopped, made, and_also, none_empty, sizes}
use Rattle.std.specs.Prelude.{Option as Optional, Some, None}
use Rattle.std.specs.List.{find, range_with_len}
use Rattle.pictures.specs.Sizes.{sized_all}
use Rattle.blocks.proofs.NumberLaws.{behind-start, behind-end, behind_more, frames-length}

-- the frames of the segments from i on
abbrev pub frames_behind : List ℕ → ℕ → List ℕ
frames_behind rs i = map head_frames (records_behind rs i)

none-behind : (rs : List ℕ) (i : ℕ) → segment_count rs ≤ i → frames_behind rs i ≡ []
none-behind rs i h = ap (map head_frames) (behind-end rs i h)

more-behind : (rs : List ℕ) (i : ℕ) → i < segment_count rs → frames_behind rs i ≡ frames_at rs i ∷ frames_behind rs (i + 1)
more-behind rs i h = ap (map head_frames) (behind_more rs i h)

-- ---- the total

total-none : total [] ≡ 0
unfolding total
total-none = refl

total-more : (n : ℕ) (ns : List ℕ) → total (n ∷ ns) ≡ n + total ns
unfolding total
total-more n ns = refl

-- `sum` is the saturated sum of i segments
pub record Summing (rs : List ℕ) (i sum : ℕ) : Type 0 where
  pub within : i ≤ segment_count rs
  pub small : sum ≤ 2 ^ 64 - 1
  pub whole : capped (sum + total (frames_behind rs i)) ≡ capped (total (frames_in rs))

pub sum-start : (rs : List ℕ) → Summing rs 0 0
sum-start rs = let e = ap (λ (l : List (List ℕ)). total (map head_frames l)) (behind-start rs) in record { within = omega arith; small = omega arith; whole = omega arith }

pub sum-end : {rs : List ℕ} {i sum : ℕ} → Summing rs i sum → segment_count rs ≤ i → sum ≡ capped (total (frames_in rs))
sum-end {rs} {i} s h =
    let e = ap total (none-behind rs i h) ∙ total-none in
    omega (arith, s.whole, s.small)

pub sum-turn : {rs : List ℕ} {i sum : ℕ} (r : ℕ) → Summing rs i sum → i < segment_count rs → r ≡ capped (sum + frames_at rs i) → Summing rs (i + 1) r
sum-turn {rs} {i} r s h w =
    let e = ap total (more-behind rs i h) ∙ total-more (frames_at rs i) (frames_behind rs (i + 1)) in
    record { within = omega arith; small = omega arith; whole = omega (arith, s.whole, s.small) }

-- ---- a segment without frames

-- 24 of the segment that was found, if any was
abbrev pub empty_says : Optional ℕ → Outcome Unit
empty_says None = made tt
empty_says (Some i) = stopped 24 (some i)

abbrev pub first_empty_from : List ℕ → (i k : ℕ) → Optional ℕ
first_empty_from rs i k = find (λ m. eqb (frames_at rs m) 0) (range_with_len i k)

-- of the segments from i on
empty-from : (rs : List ℕ) (k i : ℕ) → i + k ≡ segment_count rs → none_empty i (frames_behind rs i) ≡ empty_says (first_empty_from rs i k)
unfolding none_empty
empty-from rs zero i e = rw (none-behind rs i (omega arith)) refl
empty-from rs (suc k) i e =
    let more : none_empty (suc i) (frames_behind rs (i + 1)) ≡ empty_says (first_empty_from rs (i + 1) k) =
    ap (λ (j : ℕ). none_empty j (frames_behind rs (i + 1))) (sym (add-one i)) ∙ empty-from rs k (i + 1) (omega arith) in
    rw (more-behind rs i (omega arith)) (go (eqb (frames_at rs i) 0) more)
  where
    go : (t : Bool) → none_empty (suc i) (frames_behind rs (i + 1)) ≡ empty_says (first_empty_from rs (i + 1) k)
        → pick t (stopped 24 (some i)) (none_empty (suc i) (frames_behind rs (i + 1))) ≡ empty_says (pick t (Some i) (first_empty_from rs (i + 1) k))
    go true more = refl
    go false more = more

empty-all : (rs : List ℕ) → none_empty 0 (frames_in rs) ≡ empty_says (first_empty_from rs 0 (segment_count rs))
empty-all rs = ap (λ (l : List (List ℕ)). none_empty 0 (map head_frames l)) (sym (behind-start rs)) ∙ empty-from rs (segment_count rs) 0 (omega arith)

-- ---- the refusals in order

sized-some : (gop : ℕ) (ns : List ℕ) → 1 ≤ length ns → sized_all gop ns ≡ sizes gop ns
sized-some gop [] h = absurd (omega arith)
sized-some gop (n ∷ ns) h = refl

sized-none : (gop : ℕ) (ns : List ℕ) → length ns ≡ 0 → stopped 21 none ≡ sized_all gop ns
sized-none gop [] h = refl
sized-none gop (n ∷ ns) h = absurd (omega arith)

pub refused-21 : (gop : ℕ) (rs : List ℕ) → segment_count rs ≡ 0 → stopped 21 none ≡ sized_all gop (frames_in rs)
refused-21 gop rs h = sized-none gop (frames_in rs) (frames-length rs ∙ h)

module _ (gop : ℕ) (rs : List ℕ) (some-there : segment_count rs ≡ 0 → ⊥) where
  sized-there : sized_all gop (frames_in rs) ≡ sizes gop (frames_in rs)
  sized-there = let l = frames-length rs in sized-some gop (frames_in rs) (omega arith)

  pub refused-22 : gop < 2 → stopped 22 none ≡ sized_all gop (frames_in rs)
  unfolding sizes
  refused-22 h = sym (sized-there ∙ rw (lt-ltb gop 2 h))

  module _ (g : 2 ≤ gop) (t : ℕ) (sum : t ≡ capped (total (frames_in rs))) where
    pub refused-23 : t < 2 → stopped 23 none ≡ sized_all gop (frames_in rs)
    unfolding sizes
    refused-23 h = sym (sized-there ∙ rw (le-ltb gop 2 g, lt-ltb (total (frames_in rs)) 2 (omega arith)))

    module _ (h : 2 ≤ t) (o : Optional ℕ) (first : o ≡ first_empty_from rs 0 (segment_count rs)) where
      empty-is : none_empty 0 (frames_in rs) ≡ empty_says o
      empty-is = empty-all rs ∙ ap empty_says (sym first)

      pub refused-24 : (i : ℕ) → o ≡ Some i → stopped 24 (some i) ≡ sized_all gop (frames_in rs)
      unfolding sizes and_also
      refused-24 i j = sym (sized-there ∙ rw (le-ltb gop 2 g, le-ltb (total (frames_in rs)) 2 (omega arith), empty-is, j))

      module _ (w : o ≡ None) where
        pub refused-25 : 5000000 < t → stopped 25 none ≡ sized_all gop (frames_in rs)
        unfolding sizes and_also
        refused-25 k =
            sym (sized-there ∙ rw (le-ltb gop 2 g, le-ltb (total (frames_in rs)) 2 (omega arith), empty-is, w, lt-ltb 5000000 (total (frames_in rs)) (omega arith)))

        pub sized-fit : t ≤ 5000000 → made tt ≡ sized_all gop (frames_in rs)
        unfolding sizes and_also
        sized-fit k =
            sym (sized-there ∙ rw (le-ltb gop 2 g, le-ltb (total (frames_in rs)) 2 (omega arith), empty-is, w, le-ltb 5000000 (total (frames_in rs)) (omega arith)))

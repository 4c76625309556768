-- Laws of the list of all segments, laid out one segment after the other.
use Prim.Native.Nat.{ℕ, suc, ◌+◌, ◌≤◌, ◌<◌}
use native.Mathlib.Omega.{arith}
use native.Mathlib.Numerals.{add-one}
use mathlib.Core.Path.{◌≡◌, refl, sym, ap, subst, ◌∙◌}
use mathlib.Core.List.{List, [], ◌∷◌, ◌++◌, map, map-append}
use mathlib.Core.Bool.{false}
use lib.ListN.{length}
use Rattle.blocks.specs.Blocks.{kinds, number, layout, list_of}
use Rattle.blocks.specs.Numbers.{head_frames, segment_count, records_behind, frames_at, frames_in}
use Rattle.blocks.specs.code.Lay.{entries_of, CanLay, Laid, CanLayAll}
use Rattle.blocks.proofs.NumberLaws.{behind-start, behind-end, behind_more}
use Rattle.blocks.proofs.BlockLaws.{length-blocks}
use Rattle.blocks.proofs.LayLaws.{length-entries, can-front, Laying, laying-start, laying-can, laying-more, laying-end}

pub length-kinds : (i gop n : ℕ) → 1 ≤ gop → length (entries_of i (kinds gop n)) ≡ n
length-kinds i gop n g = length-entries i (kinds gop n) ∙ length-blocks n gop false n g (omega arith)

-- the entries of a segment and of those behind it
pub list-more : (gop i n : ℕ) (ns : List ℕ) → map number (layout gop i (n ∷ ns)) ≡ entries_of i (kinds gop n) ++ map number (layout gop (suc i) ns)
unfolding layout
list-more gop i n ns = rw map-append

pub list-none : (gop i : ℕ) → map number (layout gop i []) ≡ []
unfolding layout
list-none gop i = refl

-- the entries of the segments from i on
abbrev pub entries_from : ℕ → List ℕ → ℕ → List ℕ
entries_from gop rs i = map number (layout gop i (map head_frames (records_behind rs i)))

-- i segments are laid out
pub record Listing (d₀ e₀ : List ℕ) (gop : ℕ) (rs d e : List ℕ) (i at c : ℕ) : Type 0 where
  pub within : i ≤ segment_count rs
  pub laying : Laying d₀ e₀ 0 0 (list_of gop (frames_in rs)) d e at c (entries_from gop rs i)

pub list-start : (d e : List ℕ) (gop : ℕ) (rs : List ℕ) → CanLayAll d e gop rs → Listing d e gop rs d e 0 0 0
list-start d e gop rs h =
    let all = list_of gop (frames_in rs) in
    record {
      within = omega arith;
      laying = subst (λ (l : List (List ℕ)). Laying d e 0 0 all d e 0 0 (map number (layout gop 0 (map head_frames l)))) (sym (behind-start rs)) (laying-start d e 0 0 all h.room);
    }

module _ {d₀ e₀ : List ℕ} {gop : ℕ} {rs d e : List ℕ} {i at c : ℕ} (s : Listing d₀ e₀ gop rs d e i at c) where
  pub list-end : segment_count rs ≤ i → Laid d₀ e₀ d e 0 0 c (list_of gop (frames_in rs))
  list-end h =
      laying-end (entries_from gop rs i) s.laying
      (ap (λ (l : List (List ℕ)). map number (layout gop i (map head_frames l))) (behind-end rs i h) ∙ list-none gop i)

  module _ (h : i < segment_count rs) where
    abbrev frames : ℕ
    frames = frames_at rs i

    abbrev segment_entries : List ℕ
    segment_entries = entries_of i (kinds gop frames)

    segment-split : entries_from gop rs i ≡ segment_entries ++ entries_from gop rs (i + 1)
    segment-split =
        ap (λ (l : List (List ℕ)). map number (layout gop i (map head_frames l))) (behind_more rs i h)
        ∙ list-more gop i frames (map head_frames (records_behind rs (i + 1)))
        ∙ ap (λ (k : ℕ). segment_entries ++ map number (layout gop k (map head_frames (records_behind rs (i + 1))))) (sym (add-one i))

    segment-here : Laying d₀ e₀ 0 0 (list_of gop (frames_in rs)) d e at c (segment_entries ++ entries_from gop rs (i + 1))
    segment-here = subst (λ (l : List ℕ). Laying d₀ e₀ 0 0 (list_of gop (frames_in rs)) d e at c l) segment-split s.laying

    pub list-room : CanLay d e at c segment_entries
    list-room = can-front segment_entries (entries_from gop rs (i + 1)) (laying-can (segment_entries ++ entries_from gop rs (i + 1)) segment-here)

    pub list-small : 1 ≤ gop → at + frames < 4294967296
    list-small g = omega (arith, list-room.small, length-kinds i gop frames g)

    pub list-turn : 1 ≤ gop → (d' e' : List ℕ) (c' : ℕ) → Laid d e d' e' at c c' segment_entries → Listing d₀ e₀ gop rs d' e' (i + 1) (at + frames) c'
    list-turn g d' e' c' w =
        record {
          within = omega arith;
          laying = subst (λ (m : ℕ). Laying d₀ e₀ 0 0 (list_of gop (frames_in rs)) d' e' (at + m) c' (entries_from gop rs (i + 1))) (length-kinds i gop frames g) (laying-more segment_entries (entries_from gop rs (i + 1)) d' e' c' segment-here w);
        }

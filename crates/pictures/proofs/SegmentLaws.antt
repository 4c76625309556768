-- Laws of the segments by their records, one after the other.
use Prim.Native.Nat.{ℕ, ◌+◌, ◌≤◌, ◌<◌}
use mathlib.Core.Path.{◌≡◌, sym, ap, ap₂, ◌∙◌}
use mathlib.Core.List.{List, [], ◌∷◌, map}
use Rattle.blocks.specs.Numbers.{segment_count, records_behind, key_at, golden_at, frames_at}
use Rattle.blocks.proofs.NumberLaws as N
use Rattle.pictures.specs.Segments.{Segment, segment_in}
use Rattle.pictures.specs.Flat.{all_segments}

-- the segments from i on
abbrev pub segments_behind : List ℕ → List ℕ → ℕ → List Segment
segments_behind s rs i = map (segment_in s) (records_behind rs i)

module _ (s rs : List ℕ) where
  pub segments-start : segments_behind s rs 0 ≡ all_segments s rs
  segments-start = ap (map (segment_in s)) (N.behind-start rs)

  pub segments-end : (i : ℕ) → segment_count rs ≤ i → segments_behind s rs i ≡ []
  segments-end i h = ap (map (segment_in s)) (N.behind-end rs i h)

  -- segment i, by its units, and those behind it
  pub segments-next : (i : ℕ) → i < segment_count rs → (key golden : List ℕ) → key ≡ key_at s rs i → golden ≡ golden_at s rs i
      → segments_behind s rs i ≡ record { key = key; golden = golden; frames = frames_at rs i } ∷ segments_behind s rs (i + 1)
  segments-next i h key golden k g =
      ap (map (segment_in s)) (N.behind_more rs i h)
      ∙ ap₂ (λ (u v : List ℕ). record { key = u; golden = v; frames = frames_at rs i } ∷ segments_behind s rs (i + 1)) (sym k) (sym g)

-- Lists and cues laid out in lent memory, from the flat numbers of the segments.
use Rattle.std.specs.Prelude.{ℕ, suc, ◌+◌, ◌≤◌, ◌<◌, ◌≡◌, List, [], ◌∷◌, map, Bool, cond as pick, length}
use Rattle.bitio.specs.Lent.{pasted}
use Rattle.blocks.specs.Numbers.{segment_count, frames_in}
use Rattle.blocks.specs.Blocks.{Kind, number, positions, is_key_entry, list_of}

-- the entries of segment i with these units
abbrev pub entries_of : ℕ → List Kind → List ℕ
entries_of i ks = map number (map (λ k. record { segment = i; kind = k }) ks)

-- the cues of entries of which the first stands behind p others
abbrev pub cues_from : ℕ → List ℕ → List ℕ
cues_from p xs = positions is_key_entry (suc p) xs

-- the cue of a block behind p units: its first, if that is a key
abbrev pub block_cue : Bool → ℕ → List ℕ
block_cue key p = pick key (suc p ∷ []) []

-- the entries xs have room in the list d at p, their cues in e at c, and cues are u32
pub record CanLay (d e : List ℕ) (p c : ℕ) (xs : List ℕ) : Type 0 where
  pub list : p + length xs ≤ length d
  pub cues : c + length (cues_from p xs) ≤ length e
  pub small : p + length xs < 4294967296

-- xs and their cues stand there, the next cue's place is n, and nothing else has changed
pub record Laid (d₀ e₀ d e : List ℕ) (p c n : ℕ) (xs : List ℕ) : Type 0 where
  pub list : d ≡ pasted d₀ p xs
  pub cues : e ≡ pasted e₀ c (cues_from p xs)
  pub next : n ≡ c + length (cues_from p xs)

-- what laying out all segments asks: segments that an entry can name, a gop_size, and room
pub record CanLayAll (d e : List ℕ) (gop : ℕ) (rs : List ℕ) : Type 0 where
  pub segments : segment_count rs ≤ 1073741823
  pub gop-size : 1 ≤ gop
  pub room : CanLay d e 0 0 (list_of gop (frames_in rs))

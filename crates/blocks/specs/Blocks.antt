-- The blocks of a segment, the unit list and the cue list (01, 'Unit list and cue list').
use Rattle.std.specs.Prelude.{ℕ, zero, suc, ◌+◌, ◌*◌, ◌-◌, ◌%◌, min, List, [], ◌∷◌, ◌++◌, map, Bool, false, not, cond as pick, ◌||◌, replicate, leb, eqb}
use Rattle.blocks.specs.declared.block.Block.{Block}
pub use Rattle.blocks.specs.declared.blocks.Kind.{Kind}
pub use Rattle.blocks.specs.declared.blocks.Kind.TheVariants.{Key, Golden, Show}

-- ---- the blocks of one segment

-- a block of so many units: key, golden, then show units; of a single unit, key says whether it is a key
abbrev pub block : Bool → ℕ → List Kind
block key zero = []
block key (suc zero) = pick key Key Show ∷ []
block key (suc (suc n)) = Key ∷ Golden ∷ replicate n Show

-- 01: the next block of a segment has min(frames left, gop_size) units, and starts with a key unless it is one unit after a golden;
-- after: the segment has had a golden
abbrev pub next_block : (gop left : ℕ) → Bool → Block
next_block gop left after = record { size = min left gop; key = not after || leb 2 (min left gop) }

-- one block behind the other, k at most
unfoldable pub blocks : ℕ → ℕ → Bool → ℕ → List Kind
blocks zero gop after left = []
blocks (suc k) gop after left =
    let b = next_block gop left after in
    block b.key b.size ++ blocks k gop (after || leb 2 b.size) (left - b.size)

-- the units of a segment of n frames
abbrev pub kinds : ℕ → ℕ → List Kind
kinds gop n = blocks n gop false n

-- ---- the list

pub record Entry : Type 0 where
  pub segment : ℕ
  pub kind : Kind

-- 01: key 0, golden 1, show 2
abbrev pub code : Kind → ℕ
code Key = 0
code Golden = 1
code Show = 2

-- 01: a list entry is segment × 4 + kind, segments from 0
abbrev pub number : Entry → ℕ
number e = e.segment * 4 + code e.kind

-- the entries of segments with these frames, one segment after the other, the first being segment i
unfoldable pub layout : ℕ → ℕ → List ℕ → List Entry
layout gop i [] = []
layout gop i (n ∷ ns) = map (λ k. record { segment = i; kind = k }) (kinds gop n) ++ layout gop (suc i) ns

abbrev pub list_of : ℕ → List ℕ → List ℕ
list_of gop ns = map number (layout gop 0 ns)

-- ---- the cues

-- the positions, rising, of the elements that pass, the first element standing at p
unfoldable pub positions : {A : Type 0} → (A → Bool) → ℕ → List A → List ℕ
positions pass p [] = []
positions pass p (a ∷ l) = pick (pass a) (p ∷ positions pass (suc p) l) (positions pass (suc p) l)

abbrev pub is_key_entry : ℕ → Bool
is_key_entry n = eqb (n % 4) 0

-- 01: cues count units from 1
abbrev pub cues_of : List ℕ → List ℕ
cues_of list = positions is_key_entry 1 list

-- ---- the frames ordered

-- 01: the frames ordered are the sum of the segments' frames
unfoldable pub total : List ℕ → ℕ
total [] = 0
total (n ∷ ns) = n + total ns

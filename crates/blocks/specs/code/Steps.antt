-- The blocks of a segment that are still to come, as the iterator of them stands.
use Rattle.std.specs.Prelude.{◌≡◌, ◌≤◌, ◌-◌, List, ◌||◌, leb, Option, None, Some}
use Rattle.blocks.specs.declared.block.Block.{Block}
use Rattle.blocks.specs.declared.block.Blocks.{Blocks}
use Rattle.blocks.specs.Blocks.{Kind, blocks, next_block}

-- their units
abbrev pub units_left : Blocks → List Kind
units_left it = blocks it.left it.gop it.after it.left

-- b is next at s, and t is behind it
pub record IsNext (s : Blocks) (b : Block) (t : Blocks) : Type 0 where
  pub some : 1 ≤ s.left
  pub is : b ≡ next_block s.gop s.left s.after
  pub gop : t.gop ≡ s.gop
  pub left : t.left ≡ s.left - b.size
  pub after : t.after ≡ (s.after || leb 2 b.size)

-- the next block is given, or none is left
abbrev pub GivesBlock : Blocks → Option Block → Blocks → Type 0
GivesBlock s None t = s.left ≡ 0
GivesBlock s (Some b) t = IsNext s b t

-- The units of a stream, one behind the other, as the code walks over them.
use Rattle.std.specs.Prelude.{◌≡◌, ℕ, ◌-◌, ◌≤◌, List, length, Option, Some, None}
use Rattle.std.specs.Iterator.{Count, at_most}
use Rattle.container.specs.code.Extents.{Frames, FirstUnit}
use Rattle.container.specs.declared.extents.Extent.{Extent}
use Rattle.container.specs.declared.extents.Extents.{Extents}

-- the units of s from `at` on, of n frames
abbrev pub Walks : Extents → List ℕ → ℕ → ℕ → Type 0
Walks it s at n = (it.bytes.now ≡ s) × (it.at ≡ at) × (it.frames ≡ n)

-- what is left is read through, and has so many frames
abbrev pub CanGive : Extents → Type 0
CanGive it = Frames it.bytes.now it.at it.frames

-- the first unit of what is left, or none at the end
abbrev pub GivesExtent : Extents → Option Extent → Extents → Type 0
GivesExtent old None new = (length old.bytes.now ≤ old.at) × Walks new old.bytes.now old.at old.frames
GivesExtent old (Some x) new = FirstUnit old.bytes.now old.at old.frames x.lead.start x.lead.end x.obus.start x.obus.end × Walks new old.bytes.now x.obus.end (old.frames - 1)

-- each unit has at least a byte
abbrev pub bytes_left : Extents → Count
bytes_left it = at_most (length it.bytes.now - it.at)

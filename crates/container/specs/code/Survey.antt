-- A stream read through once, and whether its units have room.
use Rattle.std.specs.Prelude.{ℕ, ◌≡◌, List, Bool, false, length}
use Rattle.bitio.specs.Parse.{Answer, refused, accepted}
use Rattle.obu.specs.Obu.{Obu, unit_bytes}
use Rattle.obu.specs.Unit.{is_frame, count}
use Rattle.container.specs.Limits.{Room, fits}
use Rattle.container.specs.declared.units.Sizes.{Sizes}
use Rattle.container.specs.declared.survey.Tally.{Tally}
use Rattle.container.specs.code.Extents.{StreamFrames}

-- how many frames there are, and how many bytes all OBUs have, written
abbrev pub tally_of : List Obu → Tally
tally_of os = record { frames = count is_frame os; bytes = length (unit_bytes os) }

-- the stream can be measured, has n frames, and its OBUs, written, have b bytes
pub record Surveyed (s : List ℕ) (n b : ℕ) : Type 0 where
  pub stream : StreamFrames s n
  pub bytes : length (unit_bytes stream.all) ≡ b

-- whether units of these sizes have room
abbrev pub sizes_fit : Answer Sizes → Room → Bool
sizes_fit (refused k) room = false
sizes_fit (accepted z) room = fits z.bytes z.units room

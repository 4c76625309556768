-- The operations of both containers, with their limits: what the contracts and demand 3 speak of.
use Rattle.std.specs.Prelude.{ℕ, List, length}
use Rattle.bitio.specs.Parse.{Answer, accepted, and_next}
use Rattle.container.specs.Stream.{stream_units, stream_bytes}
use Rattle.container.specs.AnnexB.{annexb_units, annexb_bytes}
use Rattle.container.specs.Limits.{Room, fit_bytes, fit_units}
use Rattle.bitio.specs.Limits.{led34}
use Rattle.container.specs.Units.{units_at}

pub data Container : Type 0 where
  stream : Container
  annexb : Container

abbrev pub units_in : Container → List ℕ → Answer (List (List ℕ))
units_in stream s = stream_units s
units_in annexb s = annexb_units s

abbrev pub bytes_in : Container → List (List ℕ) → Answer (List ℕ)
bytes_in stream us = accepted (stream_bytes us)
bytes_in annexb us = annexb_bytes us

-- the units of a container's bytes: 34 leads, 35 comes last
unfoldable pub read : Container → Room → List ℕ → Answer (List (List ℕ))
read c room s = led34 (length s) (fit_units room (units_in c s))

-- the bytes of units in a container
unfoldable pub write : Container → Room → List (List ℕ) → Answer (List ℕ)
write c room us = led34 (length (stream_bytes us)) (fit_bytes room (bytes_in c us))

-- the same of units in lent memory, s their bytes and es their ends: 34 leads, 36 is next
unfoldable pub write_at : Container → Room → List ℕ → List ℕ → Answer (List ℕ)
write_at c room s es = led34 (length s) (and_next (units_at s es) (λ us. fit_bytes room (bytes_in c us)))

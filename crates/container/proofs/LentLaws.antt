-- Units in lent memory, written: the same as units in a list.
use Prim.Native.Nat.{ℕ, ◌+◌, ◌-◌}
use native.Mathlib.Omega.{arith}
use mathlib.Core.Path.{◌≡◌, refl}
use mathlib.Core.List.{List, [], ◌∷◌, ◌++◌}
use lib.ListN.{length, length-append}
use lib.Seq.{take-append_seam, drop-append_seam}
use borrow.Author.Tests.{le-leb}
use Rattle.bitio.specs.Parse.{accepted, and_next}
use Rattle.container.specs.Stream.{flat, stream_bytes}
use Rattle.container.specs.Units.{ends_of, units_from}
use Rattle.container.specs.Limits.{Room}
use Rattle.container.specs.Container.{Container, write, write_at}

-- units laid one behind the other, by their ends
pub units-there : (at : ℕ) (us : List (List ℕ)) → units_from at (flat us) (ends_of at us) ≡ accepted us
unfolding units_from flat ends_of
units-there at [] = refl
units-there at (u ∷ us) =
    let n = length-append u (flat us) in
    let d : at + length u - at ≡ length u = omega arith in
    rw (le-leb at (at + length u) (omega arith), d, le-leb (length u) (length (u ++ flat us)) (omega arith), take-append_seam u (flat us), drop-append_seam u (flat us), units-there (at + length u) us)

pub lent-write : (c : Container) (room : Room) (us : List (List ℕ)) → write_at c room (stream_bytes us) (ends_of 0 us) ≡ write c room us
unfolding write_at write stream_bytes and_next
lent-write c room us = rw (units-there 0 us)

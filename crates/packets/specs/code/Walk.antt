-- The output packets, one behind the other, as the code walks over them.
use Rattle.std.specs.Prelude.{◌≡◌, ℕ, ◌+◌, ◌-◌, ◌≤◌, ◌<◌, length, Option, Some, None}
use Rattle.std.specs.Iterator.{Count, at_most}
use Rattle.container.specs.Lists.{listed}
use Rattle.packets.specs.code.PacketRuns.{NextClose, stop_of}
use Rattle.packets.specs.declared.packets.lists.Packets.{Packets}
use Rattle.packets.specs.declared.packets.walk.Place.{Place}
use Rattle.packets.specs.declared.packets.walk.Pieces.{Pieces}

-- those of the packets ps from number a on, the next of which closes at o
abbrev pub Walks : Pieces → Packets → ℕ → Option ℕ → Type 0
Walks it ps a o = (it.packets ≡ ps) × (it.first ≡ a) × (it.close ≡ o)

-- what closes next, if anything does, is one of the packets from a to n
abbrev pub Among : (a n : ℕ) → Option ℕ → Type 0
Among a n None = Unit
Among a n (Some c) = (a ≤ c) × (c < n)

-- each packet has a time
pub record CanGive (it : Pieces) : Type 0 where
  pub match : length it.packets.units.ends.now ≡ length it.packets.times.now
  pub close : Among it.first (length it.packets.times.now) it.close

-- the next output packet, and the packet that closes behind it, or none at the end
abbrev pub GivesPlace : Pieces → Option Place → Pieces → Type 0
GivesPlace old None new = (old.close ≡ None) × Walks new old.packets old.first None
GivesPlace old (Some x) new =
    (old.close ≡ Some x.close) × (x.first ≡ old.first)
    × NextClose (listed old.packets.units.bytes.now old.packets.units.ends.now) (x.close + 1) new.close
    × (x.stop ≡ stop_of new.close (x.close + 1) (length old.packets.times.now))
    × (new.packets ≡ old.packets) × (new.first ≡ x.stop)

-- each output packet takes at least one packet
abbrev pub packets_left : Pieces → Count
packets_left it = at_most (length it.packets.times.now - it.first)

-- Packets as lent memory has them: their bytes one behind the other, the end of each and the time of each.
use Rattle.std.specs.Prelude.{ℕ, List, [], ◌∷◌, map, Bool, cond as pick, ◌&&◌, length, leb, eqb}
use Rattle.bitio.specs.Parse.{Answer, refused, accepted, answer, and_next}
use Rattle.bitio.specs.Lent.{pasted}
use Rattle.container.specs.Stream.{stream_bytes}
use Rattle.packets.specs.Packets.{Packet, merge_packets}
use Rattle.bitio.specs.Limits.{led34}
use Rattle.container.specs.Limits.{fits}
use Rattle.container.specs.Units.{units_at}

-- the units us with the times ts
unfoldable pub stamped : List ℕ → List (List ℕ) → List Packet
stamped [] us = []
stamped (t ∷ ts) [] = []
stamped (t ∷ ts) (u ∷ us) = record { time = t; bytes = u } ∷ stamped ts us

-- the packets of the bytes s, with the ends es and the times ts.
-- 36: the ends are no list of units, or the times are more or fewer
unfoldable pub packets_at : List ℕ → List ℕ → List ℕ → Answer (List Packet)
packets_at s es ts = pick (eqb (length es) (length ts)) (answer (stamped ts) (units_at s es)) (refused 36)

unfoldable pub bytes_of : List Packet → List (List ℕ)
bytes_of ps = map (λ p. p.bytes) ps

unfoldable pub times_of : List Packet → List ℕ
times_of ps = map (λ p. p.time) ps

-- room for bytes, for ends and for times
pub record PacketRoom : Type 0 where
  pub bytes : ℕ
  pub ends : ℕ
  pub times : ℕ

-- the room of lent memory
abbrev pub lent_room : List ℕ → List ℕ → List ℕ → PacketRoom
lent_room o e t = record { bytes = length o; ends = length e; times = length t }

-- n bytes, and the ends and times of u packets, have room
abbrev pub fits_packets : ℕ → ℕ → PacketRoom → Bool
fits_packets n u room = fits n u (record { bytes = room.bytes; ends = room.ends }) && leb u room.times

-- 01: 35 comes last, if lent room or the limit cannot hold the result
abbrev pub fit_packets : PacketRoom → List Packet → Answer (List Packet)
fit_packets room ps = pick (fits_packets (length (stream_bytes (bytes_of ps))) (length ps) room) (accepted ps) (refused 35)

-- 01, merge_frameless_packets, with its limits: 34 leads, 36 is next, 35 comes last
unfoldable pub merged_at : PacketRoom → List ℕ → List ℕ → List ℕ → Answer (List Packet)
merged_at room s es ts = led34 (length s) (and_next (packets_at s es ts) (λ qs. fit_packets room (merge_packets qs)))

-- what lent memory for times holds afterwards
abbrev pub times_after : Answer (List Packet) → List ℕ → List ℕ
times_after (refused k) d = d
times_after (accepted ps) d = pasted d 0 (times_of ps)

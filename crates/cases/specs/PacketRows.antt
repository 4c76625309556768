-- 01's rules for packets and canonical units, on small ones.
use Rattle.std.specs.Prelude.{ℕ, List, [], ◌∷◌, map}
use Rattle.bitio.specs.Parse.{Answer, refused, accepted, answer}
use Rattle.container.specs.Limits.{bytes_room}
use Rattle.packets.specs.Packets.{canonical_at}
use Rattle.packets.specs.PacketLists.{PacketRoom, merged_at}
use Rattle.cases.specs.Rows.{Row}

abbrev room : PacketRoom
room = record { bytes = 99; ends = 9; times = 9 }

-- each packet as its time and its bytes
abbrev merged : PacketRoom → (s ends times : List ℕ) → Answer (List (List ℕ))
merged r s ends times = answer (λ ps. map (λ p. p.time ∷ p.bytes) ps) (merged_at r s ends times)

-- a unit made canonical, with room for n bytes
abbrev clean : ℕ → List ℕ → Answer (List (List ℕ))
clean n u = answer (λ bs. bs ∷ []) (canonical_at (bytes_room n) u)

-- ---- the rows

abbrev pub packet_rows : List Row
packet_rows =
    -- `2A 00`, `12 00`, `32 00`: what waits is put end to end, under the later packet's time
    (merged room (0x2A ∷ 0x00 ∷ 0x12 ∷ 0x00 ∷ 0x32 ∷ 0x00 ∷ []) (2 ∷ 4 ∷ 6 ∷ []) (7 ∷ 8 ∷ 9 ∷ []), accepted ((9 ∷ 0x2A ∷ 0x00 ∷ 0x32 ∷ 0x00 ∷ []) ∷ []))
    -- `12 00 2A 00`, `12 00 32 00`: the delimiter at the head of what waits is kept
    ∷ (merged room (0x12 ∷ 0x00 ∷ 0x2A ∷ 0x00 ∷ 0x12 ∷ 0x00 ∷ 0x32 ∷ 0x00 ∷ []) (4 ∷ 8 ∷ []) (7 ∷ 8 ∷ []), accepted ((8 ∷ 0x12 ∷ 0x00 ∷ 0x2A ∷ 0x00 ∷ 0x32 ∷ 0x00 ∷ []) ∷ []))
    -- `2A 00`, `12 00 32 00`: else that at the head of the packet with the frame moves to the front
    ∷ (merged room (0x2A ∷ 0x00 ∷ 0x12 ∷ 0x00 ∷ 0x32 ∷ 0x00 ∷ []) (2 ∷ 6 ∷ []) (7 ∷ 8 ∷ []), accepted ((8 ∷ 0x12 ∷ 0x00 ∷ 0x2A ∷ 0x00 ∷ 0x32 ∷ 0x00 ∷ []) ∷ []))
    -- `32 00`, `12 00 2A 00`: a frameless tail takes the last packet's time, and its delimiter moves to the front
    ∷ (merged room (0x32 ∷ 0x00 ∷ 0x12 ∷ 0x00 ∷ 0x2A ∷ 0x00 ∷ []) (2 ∷ 6 ∷ []) (7 ∷ 8 ∷ []), accepted ((7 ∷ 0x12 ∷ 0x00 ∷ 0x32 ∷ 0x00 ∷ 0x2A ∷ 0x00 ∷ []) ∷ []))
    -- empty packets vanish
    ∷ (merged room (0x32 ∷ 0x00 ∷ 0x32 ∷ 0x00 ∷ []) (0 ∷ 2 ∷ 2 ∷ 4 ∷ 4 ∷ []) (5 ∷ 6 ∷ 7 ∷ 8 ∷ 9 ∷ []), accepted ((6 ∷ 0x32 ∷ 0x00 ∷ []) ∷ (8 ∷ 0x32 ∷ 0x00 ∷ []) ∷ []))
    -- `12 00`, `4A 00`, `12 00`: what cannot be read is not changed, what waits goes before it, a tail behind
    ∷ (merged room (0x12 ∷ 0x00 ∷ 0x4A ∷ 0x00 ∷ 0x12 ∷ 0x00 ∷ []) (2 ∷ 4 ∷ 6 ∷ []) (7 ∷ 8 ∷ 9 ∷ []), accepted ((8 ∷ 0x12 ∷ 0x00 ∷ 0x4A ∷ 0x00 ∷ 0x12 ∷ 0x00 ∷ []) ∷ []))
    -- `28`, `30`: an OBU without a size ends with its packet
    ∷ (merged room (0x28 ∷ 0x30 ∷ []) (1 ∷ 2 ∷ []) (7 ∷ 8 ∷ []), accepted ((8 ∷ 0x2A ∷ 0x00 ∷ 0x32 ∷ 0x00 ∷ []) ∷ []))
    -- an empty packet, `12 00 2A 00`, `12 00`: frameless packets alone have the time of the first with bytes, delimiters untouched
    ∷ (merged room (0x12 ∷ 0x00 ∷ 0x2A ∷ 0x00 ∷ 0x12 ∷ 0x00 ∷ []) (0 ∷ 4 ∷ 6 ∷ []) (7 ∷ 8 ∷ 9 ∷ []), accepted ((8 ∷ 0x12 ∷ 0x00 ∷ 0x2A ∷ 0x00 ∷ 0x12 ∷ 0x00 ∷ []) ∷ []))
    -- no packets; empty packets only
    ∷ (merged room [] [] [], accepted [])
    ∷ (merged room [] (0 ∷ 0 ∷ []) (7 ∷ 8 ∷ []), accepted [])
    -- 36: an end that falls, a last end that is not the byte count, bytes without an end, fewer times than ends
    ∷ (merged room (0x32 ∷ 0x00 ∷ 0x32 ∷ 0x00 ∷ []) (4 ∷ 2 ∷ 4 ∷ []) (7 ∷ 8 ∷ 9 ∷ []), refused 36)
    ∷ (merged room (0x32 ∷ 0x00 ∷ []) (1 ∷ []) (7 ∷ []), refused 36)
    ∷ (merged room (0x32 ∷ 0x00 ∷ []) [] [], refused 36)
    ∷ (merged room (0x32 ∷ 0x00 ∷ []) (2 ∷ []) [], refused 36)
    -- 35: no room for the second byte; none for its time
    ∷ (merged (record { bytes = 1; ends = 1; times = 1 }) (0x32 ∷ 0x00 ∷ []) (2 ∷ []) (7 ∷ []), refused 35)
    ∷ (merged (record { bytes = 2; ends = 1; times = 0 }) (0x32 ∷ 0x00 ∷ []) (2 ∷ []) (7 ∷ []), refused 35)
    -- `12 00 2A 00 12 00`: the delimiter behind the first place goes
    ∷ (clean 9 (0x12 ∷ 0x00 ∷ 0x2A ∷ 0x00 ∷ 0x12 ∷ 0x00 ∷ []), accepted ((0x12 ∷ 0x00 ∷ 0x2A ∷ 0x00 ∷ []) ∷ []))
    -- `13 00 12 00 28`: with a stray delimiter all is written anew, the reserved bit clear and every OBU sized
    ∷ (clean 9 (0x13 ∷ 0x00 ∷ 0x12 ∷ 0x00 ∷ 0x28 ∷ []), accepted ((0x12 ∷ 0x00 ∷ 0x2A ∷ 0x00 ∷ []) ∷ []))
    -- without one, and where a unit does not parse, every byte stays
    ∷ (clean 9 (0x13 ∷ 0x00 ∷ 0x28 ∷ []), accepted ((0x13 ∷ 0x00 ∷ 0x28 ∷ []) ∷ []))
    ∷ (clean 9 (0x12 ∷ 0x00 ∷ 0x12 ∷ 0x00 ∷ 0x4A ∷ 0x00 ∷ []), accepted ((0x12 ∷ 0x00 ∷ 0x12 ∷ 0x00 ∷ 0x4A ∷ 0x00 ∷ []) ∷ []))
    -- 35: no room for the last byte
    ∷ (clean 3 (0x12 ∷ 0x00 ∷ 0x2A ∷ 0x00 ∷ []), refused 35)
    ∷ []

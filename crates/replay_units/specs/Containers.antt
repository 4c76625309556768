-- What the requests on containers and packets are answered, with the memory lent to them.
use Rattle.std.specs.Prelude.{ℕ, false, List, None, length}
use Rattle.bitio.specs.Parse.{Answer, answer}
use Rattle.container.specs.Container.{stream, annexb, read, write_at}
use Rattle.container.specs.Limits.{bytes_room, room_in}
use Rattle.container.specs.declared.units.Sizes.{Sizes}
use Rattle.container.specs.Units.{sizes_of, bytes_after, ends_after, count_of, out_after}
use Rattle.packets.specs.Packets.{Packet, canonical_at}
use Rattle.packets.specs.PacketLists.{lent_room, bytes_of, times_after, merged_at}
use Rattle.protocol.specs.Answers.{Line, parts_of, Filled, filled, Parted, parted}
use Rattle.protocol.specs.Told.{told_by, count_told, Told, told}

-- units: their bytes in so many parts
abbrev pub sizes_told : Answer Sizes → Line
sizes_told x = told_by (λ n. parts_of n.bytes n.units) x

abbrev pub units_told : Answer (List (List ℕ)) → List ℕ → List ℕ → Parted
units_told x s es = parted (sizes_told (sizes_of x)) (bytes_after x s) (ends_after x es)

-- stream DATA
abbrev pub stream_told : List ℕ → (m es : List ℕ) → Parted
stream_told s m es = units_told (read stream (room_in m es) s) m es

-- annexb DATA
abbrev pub annexb_told : List ℕ → (m es : List ℕ) → Parted
annexb_told s m es = units_told (read annexb (room_in m es) s) m es

-- bytes at the head of lent memory, which is all their room
abbrev pub written_told : Answer (List ℕ) → List ℕ → Filled
written_told x m = filled (count_told (count_of x)) (out_after x m)

-- wstream UNIT ..
abbrev pub wstream_told : (s es m : List ℕ) → Filled
wstream_told s es m = written_told (write_at stream (bytes_room (length m)) s es) m

-- wannexb UNIT ..
abbrev pub wannexb_told : (s es m : List ℕ) → Filled
wannexb_told s es m = written_told (write_at annexb (bytes_room (length m)) s es) m

-- canon UNIT
abbrev pub canon_told : (s m : List ℕ) → Filled
canon_told s m = written_told (canonical_at (bytes_room (length m)) s) m

-- packets: their times are numbers
abbrev pub stamped_told : Answer Sizes → Line
stamped_told x =
    told_by (λ n. record { refusal = None; bytes = n.bytes; ends = n.units; numbers = n.units; is_dirty = false }) x

abbrev pub merged_told : Answer (List Packet) → List ℕ → List ℕ → List ℕ → Told
merged_told x m es ts =
    told (stamped_told (sizes_of (answer bytes_of x))) (bytes_after (answer bytes_of x) m) (ends_after (answer bytes_of x) es) (times_after x ts)

-- packets TIME PACKET ..
abbrev pub packets_told : (s ends times m es ns : List ℕ) → Told
packets_told s ends times m es ns = merged_told (merged_at (lent_room m es ns) s ends times) m es ns

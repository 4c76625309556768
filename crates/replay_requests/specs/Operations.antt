-- What each request is answered: the outcome of its operation, told in the memory lent to it.
use Rattle.std.specs.Prelude.{ℕ, List, get_or}
use Rattle.obu.specs.Place.{part_in}
use Rattle.protocol.specs.Told.{Told, told, numbers_told, bytes_told, parts_told}
use Rattle.protocol.specs.declared.lent.Lent.{Lent}
use Rattle.replay_headers.specs.Headers.{bits_told, uvlc_told, leb_told, lebput_told, obus_told, obuput_told, seq_told, support_told, emit_told, timed_told, frame_told}
use Rattle.replay_units.specs.Containers.{stream_told, annexb_told, wstream_told, wannexb_told, canon_told, packets_told}
use Rattle.replay_lists.specs.Lists.{assemble_told}
use Rattle.replay_lists.specs.Plays.{play_told}
use Rattle.replay_lists.specs.Slots.{slot_told}
use Rattle.replay_scan.specs.Scans.{scan_told}
use Rattle.replay_requests.specs.declared.rows.Operation.{Operation}
use Rattle.replay_requests.specs.declared.rows.Operation.TheVariants.{Bits, Uvlc, Leb, Lebput, Obus, Obuput, Seq, Support, Emit, Timed, Frame, Stream, Annexb, Wstream, Wannexb, Canon, Packets, Assemble, Play, Scan, Slot}

-- with the byte strings s, their ends es and the numbers ns, a and b first, lent the bytes m, the ends e and the numbers n
abbrev pub operated_with : Operation → (a b : ℕ) → Lent → (s es ns m e n : List ℕ) → Told
operated_with Bits a b room s es ns m e n = numbers_told m e (bits_told s a b n)
operated_with Uvlc a b room s es ns m e n = numbers_told m e (uvlc_told s a n)
operated_with Leb a b room s es ns m e n = numbers_told m e (leb_told s n)
operated_with Lebput a b room s es ns m e n = bytes_told e n (lebput_told a m)
operated_with Obus a b room s es ns m e n = obus_told s m e n
operated_with Obuput a b room s es ns m e n = bytes_told e n (obuput_told a b s m)
operated_with Seq a b room s es ns m e n = numbers_told m e (seq_told s n)
operated_with Support a b room s es ns m e n = told (support_told s) m e n
operated_with Emit a b room s es ns m e n = bytes_told e n (emit_told s m)
operated_with Timed a b room s es ns m e n = bytes_told e n (timed_told s a b m)
operated_with Frame a b room s es ns m e n = numbers_told m e (frame_told (part_in s es 0) (part_in s es 1) n)
operated_with Stream a b room s es ns m e n = parts_told n (stream_told s m e)
operated_with Annexb a b room s es ns m e n = parts_told n (annexb_told s m e)
operated_with Wstream a b room s es ns m e n = bytes_told e n (wstream_told s es m)
operated_with Wannexb a b room s es ns m e n = bytes_told e n (wannexb_told s es m)
operated_with Canon a b room s es ns m e n = bytes_told e n (canon_told s m)
operated_with Packets a b room s es ns m e n = packets_told s es ns m e n
operated_with Assemble a b room s es ns m e n = assemble_told room s es ns m e n
operated_with Play a b room s es ns m e n = numbers_told m e (play_told s es ns n)
operated_with Scan a b room s es ns m e n = numbers_told m e (scan_told s es n)
operated_with Slot a b room s es ns m e n = numbers_told m e (slot_told a n)

unfoldable pub operated : Operation → Lent → (s es ns m e n : List ℕ) → Told
operated operation room s es ns m e n = operated_with operation (get_or ns 0 0) (get_or ns 1 0) room s es ns m e n

-- The cases that 01 marks P, and those of 02.
use Rattle.std.specs.Prelude.{ℕ, List, [], ◌∷◌, ◌++◌, false}
use Rattle.bitio.specs.Parse.{Answer, refused, accepted, answer, and_next}
use Rattle.container.specs.Limits.{Room}
use Rattle.container.specs.AnnexB.{annexb_units_of}
use Rattle.container.specs.Container.{stream, annexb, read, write}
use Rattle.bitio.specs.Limits.{limited}
use Rattle.header.specs.Sequence.{parse_sequence}
use Rattle.header.specs.Timed.{timed}
use Rattle.emit.specs.Emit.{emitted}
use Rattle.frame.specs.Frame.{parse_frame_from}
use Rattle.pictures.specs.Prepare.{show_unit}
use Rattle.pictures.specs.Assemble.{Outcome, stopped, made, Output, assemble}
use Rattle.assemble.specs.Examples.{timed_payload, picture_kg, ranges_kg, room_kg, settings_kg, payload_k}
use Rattle.cases.specs.Rows.{Row}
use Rattle.replay_headers.specs.Headers.{frame_fields}

abbrev ample : Room
ample = record { bytes = 64; ends = 8 }

-- the units of a stream and of Annex B
abbrev in_stream : List ℕ → Answer (List (List ℕ))
in_stream s = read stream ample s

abbrev in_annex_b : List ℕ → Answer (List (List ℕ))
in_annex_b s = read annexb ample s

-- units written as Annex B
abbrev to_annex_b : List (List ℕ) → Answer (List (List ℕ))
to_annex_b us = answer (λ bs. bs ∷ []) (write annexb ample us)

-- a sequence header's payload timed and emitted
abbrev emitted_timed : ℕ → ℕ → List ℕ → Answer (List (List ℕ))
emitted_timed num den s =
    and_next (limited s (parse_sequence s)) (λ q.
    and_next (timed num den q.header) (λ h.
    answer (λ bs. bs ∷ []) (emitted (record { header = h; points = q.points }))))

-- a frame header's fields as replay tells them
abbrev frame : List ℕ → List ℕ → Answer (List (List ℕ))
frame s f = answer (λ x. frame_fields x ∷ []) (limited f (limited s (parse_frame_from s f)))

-- what of an assembly 01 marks P: the list's entries, that is kinds by segment; the cues; the show units, that is slots
abbrev marked_of : Outcome Output → Answer (List (List ℕ))
marked_of (stopped k i) = refused k
marked_of (made o) = accepted (o.list ∷ o.cues ∷ o.shows ∷ [])

-- ---- the rows

abbrev pub marked_rows : List Row
marked_rows =
    -- 01, 'Units from a stream'
    (in_stream [], accepted [])
    ∷ (in_stream (0x30 ∷ []), accepted ((0x32 ∷ 0x00 ∷ []) ∷ []))
    ∷ (in_stream (0x32 ∷ 0x00 ∷ 0x12 ∷ 0x00 ∷ 0x2A ∷ 0x00 ∷ []), accepted ((0x12 ∷ 0x00 ∷ 0x32 ∷ 0x00 ∷ 0x2A ∷ 0x00 ∷ []) ∷ []))
    ∷ (in_stream (0x12 ∷ 0x00 ∷ 0x2A ∷ 0x00 ∷ 0x12 ∷ 0x00 ∷ 0x2A ∷ 0x00 ∷ []), accepted ((0x12 ∷ 0x00 ∷ 0x2A ∷ 0x00 ∷ 0x12 ∷ 0x00 ∷ 0x2A ∷ 0x00 ∷ []) ∷ []))
    ∷ (in_stream (0x32 ∷ 0x80 ∷ 0x80 ∷ 0x80 ∷ 0x80 ∷ 0x80 ∷ 0x80 ∷ 0x80 ∷ 0x00 ∷ []), accepted ((0x32 ∷ 0x00 ∷ []) ∷ []))
    ∷ (in_stream (0x32 ∷ 0x80 ∷ 0x80 ∷ 0x80 ∷ 0x80 ∷ 0x80 ∷ 0x80 ∷ 0x80 ∷ 0x80 ∷ []), refused 4)
    -- 01, 'Units from and to Annex B': an empty unit, an OBU without a size, and a unit written
    ∷ (in_annex_b (0x00 ∷ []), accepted ([] ∷ []))
    ∷ (in_annex_b (0x03 ∷ 0x02 ∷ 0x01 ∷ 0x30 ∷ []), accepted ((0x32 ∷ 0x00 ∷ []) ∷ []))
    ∷ (to_annex_b ((0x12 ∷ 0x00 ∷ 0x1A ∷ 0x01 ∷ 0xB8 ∷ []) ∷ []), accepted ((0x06 ∷ 0x05 ∷ 0x01 ∷ 0x10 ∷ 0x02 ∷ 0x18 ∷ 0xB8 ∷ []) ∷ []))
    -- 02 §1: sizes inside Annex B, the first as the Rust reads it too; in one byte, in two, behind an extension; a type that is
    -- refused before them; none that ends, one too small, one too large
    ∷ (annexb_units_of false (0x04 ∷ 0x03 ∷ 0x02 ∷ 0x32 ∷ 0x00 ∷ []), accepted ((0x32 ∷ 0x01 ∷ 0x00 ∷ []) ∷ []))
    ∷ (in_annex_b (0x04 ∷ 0x03 ∷ 0x02 ∷ 0x32 ∷ 0x00 ∷ []), accepted ((0x32 ∷ 0x00 ∷ []) ∷ []))
    ∷ (in_annex_b (0x05 ∷ 0x04 ∷ 0x03 ∷ 0x32 ∷ 0x80 ∷ 0x00 ∷ []), accepted ((0x32 ∷ 0x00 ∷ []) ∷ []))
    ∷ (in_annex_b (0x06 ∷ 0x05 ∷ 0x04 ∷ 0x36 ∷ 0x08 ∷ 0x01 ∷ 0xAA ∷ []), accepted ((0x36 ∷ 0x08 ∷ 0x01 ∷ 0xAA ∷ []) ∷ []))
    ∷ (in_annex_b (0x03 ∷ 0x02 ∷ 0x01 ∷ 0x4A ∷ []), refused 2)
    ∷ (in_annex_b (0x03 ∷ 0x02 ∷ 0x01 ∷ 0x32 ∷ []), refused 4)
    ∷ (in_annex_b (0x05 ∷ 0x04 ∷ 0x03 ∷ 0x32 ∷ 0x00 ∷ 0x00 ∷ []), refused 40)
    ∷ (in_annex_b (0x05 ∷ 0x04 ∷ 0x03 ∷ 0x32 ∷ 0x02 ∷ 0x00 ∷ []), refused 40)
    -- 01, 'Sequence header, timed'
    ∷ (emitted_timed 25 1 payload_k, accepted (timed_payload ∷ []))
    -- the frames of 01's units K and G, and the byte of a show unit of slot 3
    ∷ (frame payload_k (0x10 ∷ []), accepted ((0 ∷ 0 ∷ 1 ∷ 0 ∷ 255 ∷ 0 ∷ []) ∷ []))
    ∷ (frame payload_k (0x38 ∷ 0x10 ∷ []), accepted ((0 ∷ 1 ∷ 1 ∷ 1 ∷ 8 ∷ 0 ∷ []) ∷ []))
    ∷ (frame payload_k (0xB8 ∷ []), accepted ((1 ∷ 3 ∷ []) ∷ []))
    -- 01, 'Unit list and cue list': the listing's kinds, cues and slots
    ∷ (marked_of (assemble room_kg settings_kg picture_kg (ranges_kg 4 1)), accepted ((0 ∷ 1 ∷ 2 ∷ 2 ∷ 4 ∷ []) ∷ (1 ∷ 5 ∷ []) ∷ (show_unit 3 ++ show_unit 3) ∷ []))
    ∷ []

-- Assembly: segments that differ, rooms, ranges, frames, headers, goldens, extensions; kinds and units by their numbers; slots.
use Rattle.std.specs.Prelude.{ℕ, suc, ◌+◌, ◌*◌, ◌-◌, ◌^◌, List, [], ◌∷◌, ◌++◌, map, length}
use Rattle.std.proofs.Math.Option.{none, some}
use Rattle.bitio.specs.Parse.{Answer, refused, accepted}
use Rattle.blocks.specs.Blocks.{code, kinds}
use Rattle.pictures.specs.Segments.{Segment}
use Rattle.pictures.specs.Prepare.{slot_of, show_unit}
use Rattle.pictures.specs.Assemble.{Outcome, stopped, made, Output, OutputRoom, and_also, sizes, assembled, assemble, named, units_of}
use Rattle.assemble.specs.Examples.{unit_k, unit_g, timed_payload, timed_header, timed_k, picture_kg, ranges_kg, room_kg, settings_kg, output_kg, picture_two, ranges_two, picture_timed, ranges_timed, room_two, output_two, payload_k, ordered}
use Rattle.cases.specs.Rows.{Row}

-- all of an assembly; to a refusal of one segment, counted from 1, so many thousands are added
abbrev handed_out : Outcome Output → Answer (List (List ℕ))
handed_out (stopped k none) = refused k
handed_out (stopped k (some i)) = refused (k + 1000 * suc i)
handed_out (made o) = accepted (o.list ∷ o.cues ∷ o.picture ∷ o.ends ∷ o.shows ∷ o.header ∷ (o.slot ∷ []) ∷ [])

-- 01's list in this room, and with these ranges
abbrev roomed_kg : OutputRoom → Answer (List (List ℕ))
roomed_kg room = handed_out (assemble room settings_kg picture_kg (ranges_kg 4 1))

abbrev ranged_kg : List ℕ → Answer (List (List ℕ))
ranged_kg rs = handed_out (assemble room_kg settings_kg picture_kg rs)

abbrev assembled_at : ℕ → List Segment → Answer (List (List ℕ))
assembled_at gop xs = handed_out (assembled (record { gop = gop; fps = 25; den = 1 }) xs)

-- K G with so many frames each
abbrev frames_kg : ℕ → List ℕ → Answer (List (List ℕ))
frames_kg gop ns = assembled_at gop (map (ordered unit_k unit_g) ns)

-- whether frames pass
abbrev sizes_pass : ℕ → List ℕ → Answer (List (List ℕ))
sizes_pass gop ns = handed_out (and_also (sizes gop ns) (λ _. made output_kg))

-- a delimiter and a frame OBU with this payload
abbrev framed_by : List ℕ → List ℕ
framed_by f = 0x12 ∷ 0x00 ∷ 0x32 ∷ length f ∷ f

-- K, and the timed K, without their frame
abbrev frameless : List ℕ
frameless = 0x12 ∷ 0x00 ∷ 0x0A ∷ 0x09 ∷ payload_k

abbrev timed_frameless : List ℕ
timed_frameless = (0x12 ∷ 0x00 ∷ []) ++ timed_header

-- 01's list with this golden in its second segment
abbrev with_golden : List ℕ → Answer (List (List ℕ))
with_golden g = assembled_at 3 (ordered unit_k unit_g 4 ∷ ordered unit_k g 1 ∷ [])

-- K with an extension byte in its sequence header OBU, and the same timed
abbrev extended_k : List ℕ
extended_k = 0x12 ∷ 0x00 ∷ 0x0E ∷ 0x20 ∷ 0x09 ∷ (payload_k ++ (0x32 ∷ 0x01 ∷ 0x10 ∷ []))

abbrev extended_timed_k : List ℕ
extended_timed_k = (0x12 ∷ 0x00 ∷ 0x0E ∷ 0x20 ∷ 0x11 ∷ timed_payload) ++ (0x32 ∷ 0x01 ∷ 0x10 ∷ [])

abbrev extended_made : List ℕ → Answer (List (List ℕ))
extended_made header = accepted ((0 ∷ 1 ∷ []) ∷ (1 ∷ []) ∷ (extended_timed_k ++ unit_g) ∷ (25 ∷ 31 ∷ []) ∷ show_unit 3 ∷ header ∷ (3 ∷ []) ∷ [])

-- ---- the rows

abbrev pub assembly_rows : List Row
assembly_rows =
    -- two segments that differ in every unit, rewritten and copied
    (handed_out (assemble room_two settings_kg picture_two ranges_two), handed_out (made output_two))
    ∷ (handed_out (assemble room_two settings_kg picture_timed ranges_timed), handed_out (made output_two))
    -- 01's list with as much room as it needs, and with each room one too small
    ∷ (roomed_kg room_kg, handed_out (made output_kg))
    ∷ (roomed_kg (record { list = 4; cues = 2; picture = 60; ends = 4; shows = 10; header = 19 }), refused 35)
    ∷ (roomed_kg (record { list = 5; cues = 1; picture = 60; ends = 4; shows = 10; header = 19 }), refused 35)
    ∷ (roomed_kg (record { list = 5; cues = 2; picture = 59; ends = 4; shows = 10; header = 19 }), refused 35)
    ∷ (roomed_kg (record { list = 5; cues = 2; picture = 60; ends = 3; shows = 10; header = 19 }), refused 35)
    ∷ (roomed_kg (record { list = 5; cues = 2; picture = 60; ends = 4; shows = 9; header = 19 }), refused 35)
    ∷ (roomed_kg (record { list = 5; cues = 2; picture = 60; ends = 4; shows = 10; header = 18 }), refused 35)
    -- ranges past the end or backwards, half a record, no record
    ∷ (ranged_kg (0 ∷ 16 ∷ 16 ∷ 22 ∷ 4 ∷ 22 ∷ 38 ∷ 38 ∷ 45 ∷ 1 ∷ []), refused 36)
    ∷ (ranged_kg (0 ∷ 16 ∷ 16 ∷ 15 ∷ 4 ∷ []), refused 36)
    ∷ (ranged_kg (0 ∷ 16 ∷ 16 ∷ 22 ∷ []), refused 36)
    ∷ (ranged_kg [], refused 21)
    -- gop_size 1; totals 1 and 5,000,001; 2 and 5,000,000 pass
    ∷ (frames_kg 1 (4 ∷ 1 ∷ []), refused 22)
    ∷ (frames_kg 2 (1 ∷ []), refused 23)
    ∷ (frames_kg 2 (5000000 ∷ 1 ∷ []), refused 25)
    ∷ (sizes_pass 2 (2 ∷ []), handed_out (made output_kg))
    ∷ (sizes_pass 2 (4999999 ∷ 1 ∷ []), handed_out (made output_kg))
    -- no frames, in the order of refusals; a total over u64
    ∷ (frames_kg 3 (0 ∷ 2 ∷ []), refused 1024)
    ∷ (frames_kg 3 (0 ∷ []), refused 23)
    ∷ (frames_kg 3 (0 ∷ 1 ∷ []), refused 23)
    ∷ (frames_kg 3 ((2 ^ 64 - 1) ∷ 2 ∷ []), refused 25)
    ∷ (frames_kg 3 (0 ∷ (2 ^ 64 - 1) ∷ 3 ∷ []), refused 1024)
    -- the first key, and a later one, without a header or with another
    ∷ (assembled_at 3 (ordered (0x80 ∷ []) unit_g 4 ∷ []), refused 1001)
    ∷ (assembled_at 3 (ordered unit_g unit_g 4 ∷ []), refused 1026)
    ∷ (assembled_at 3 (ordered unit_k unit_g 4 ∷ ordered unit_g unit_g 1 ∷ []), refused 2027)
    ∷ (assembled_at 3 (ordered unit_k unit_g 4 ∷ ordered timed_k unit_g 1 ∷ []), refused 2027)
    -- a golden's 1 comes before its key's 28 if rewriting, else after; a key that is a golden
    ∷ (assembled_at 3 (ordered frameless (0x80 ∷ []) 4 ∷ []), refused 1001)
    ∷ (assembled_at 3 (ordered timed_frameless (0x80 ∷ []) 4 ∷ []), refused 1028)
    ∷ (assembled_at 3 (ordered (frameless ++ (0x32 ∷ 0x02 ∷ 0x38 ∷ 0x10 ∷ [])) unit_g 4 ∷ []), refused 1029)
    -- goldens: no frame, a short one, show-existing, not shown, a key, one that refreshes nothing
    ∷ (with_golden (0x12 ∷ 0x00 ∷ []), refused 2028)
    ∷ (with_golden (framed_by (0x38 ∷ [])), refused 2014)
    ∷ (with_golden (show_unit 3), refused 2030)
    ∷ (with_golden (framed_by (0x20 ∷ 0x00 ∷ 0x00 ∷ [])), refused 2031)
    ∷ (with_golden (framed_by (0x10 ∷ [])), refused 2032)
    ∷ (with_golden (framed_by (0x38 ∷ 0x00 ∷ [])), refused 2033)
    -- a rewritten unit keeps its extension byte; the header OBU handed out has none when it is new, and its own when not
    ∷ (assembled_at 3 (ordered extended_k unit_g 2 ∷ []), extended_made timed_header)
    ∷ (assembled_at 3 (ordered extended_timed_k unit_g 2 ∷ []), extended_made (0x0E ∷ 0x20 ∷ 0x11 ∷ timed_payload))
    -- the kinds of 1 to 5 frames at gop_size 2
    ∷ (
      accepted (map (λ n. map code (kinds 2 n)) (1 ∷ 2 ∷ 3 ∷ 4 ∷ 5 ∷ [])),
      accepted ((0 ∷ []) ∷ (0 ∷ 1 ∷ []) ∷ (0 ∷ 1 ∷ 2 ∷ []) ∷ (0 ∷ 1 ∷ 0 ∷ 1 ∷ []) ∷ (0 ∷ 1 ∷ 0 ∷ 1 ∷ 2 ∷ []) ∷ []),
    )
    -- the units of 01's list, and numbers that name none
    ∷ (accepted (units_of output_kg), accepted (timed_k ∷ unit_g ∷ show_unit 3 ∷ show_unit 3 ∷ timed_k ∷ []))
    ∷ (accepted (map (named output_kg.picture output_kg.ends output_kg.shows) (3 ∷ 8 ∷ 9 ∷ 10 ∷ [])), accepted ([] ∷ [] ∷ [] ∷ [] ∷ []))
    -- 02: the slots of no flags, of one, of two and of all
    ∷ (accepted (map slot_of (0 ∷ 8 ∷ 128 ∷ 40 ∷ 255 ∷ []) ∷ []), accepted ((8 ∷ 3 ∷ 7 ∷ 3 ∷ 0 ∷ []) ∷ []))
    ∷ []

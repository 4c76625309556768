-- Lines of replay's protocol, read and printed, in ASCII codes.
use Rattle.std.specs.Prelude.{ℕ, List, [], ◌∷◌, Bool, true, false, Option, Some, None, Result, Ok, Err, length}
use mir.Val.{bool_byte}
use Rattle.bitio.specs.Parse.{Answer, accepted}
use Rattle.protocol.specs.Answers.{parts_of}
use Rattle.protocol.specs.Text.{ascii, is_named}
use Rattle.protocol.specs.Kinds.{Form, just, any, then_any, plain}
use Rattle.protocol.specs.Room.{room_prefix}
use Rattle.protocol.specs.Told.{Told, told}
use Rattle.protocol.specs.Fields.{Place, FieldsRead, fields_of}
use Rattle.protocol.specs.Printed.{answer_text}
use Rattle.protocol.specs.declared.kinds.Kind.TheVariants.{Bytes, Number, Count, Named, Told as Tells}
use Rattle.protocol.specs.declared.lent.Room.{Room as LineRoom}
use Rattle.protocol.specs.declared.lent.Prefix.{Prefix}
use Rattle.cases.specs.Rows.{Row}

-- whether a room is given, bytes, ends, times, and where the request starts; behind a bad prefix the three alone
abbrev room_lent : Option LineRoom → ℕ → List ℕ
room_lent None next = 0 ∷ 0 ∷ 0 ∷ 0 ∷ next ∷ []
room_lent (Some r) next = 1 ∷ r.bytes ∷ r.ends ∷ r.times ∷ next ∷ []

abbrev room_numbers : Result Prefix LineRoom → List ℕ
room_numbers (Err r) = r.bytes ∷ r.ends ∷ r.times ∷ []
room_numbers (Ok p) = room_lent p.room p.next

-- where reading stopped, how many bytes, byte strings and numbers were read, and after a bad field how many kinds are left
abbrev place_numbers : Result Place Place → List ℕ
place_numbers (Err p) = p.next ∷ p.bytes ∷ p.ends ∷ p.numbers ∷ length p.format.items ∷ []
place_numbers (Ok p) = p.next ∷ p.bytes ∷ p.ends ∷ p.numbers ∷ []

-- then the memory they went to
abbrev field_numbers : FieldsRead → List (List ℕ)
field_numbers t = place_numbers t.fields ∷ t.decoded ∷ t.ends ∷ t.numbers ∷ []

abbrev printed : Told → Form → Bool → Answer (List (List ℕ))
printed t f own = accepted (answer_text t f own ∷ [])

-- the answer of `stream`, behind which one byte b is lent
abbrev stream_answer : ℕ → Answer (List (List ℕ))
stream_answer b = printed (told (parts_of 6 1) (0x12 ∷ 0 ∷ 0x32 ∷ 0 ∷ 0x2a ∷ 0 ∷ b ∷ []) (6 ∷ 0xa5a5a5a5 ∷ []) []) (then_any (plain Count ∷ []) (plain Bytes ∷ [])) false

-- ---- the rows

abbrev pub line_rows : List Row
line_rows =
    -- `room 1 2 30 leb 00`
    (accepted (room_numbers (room_prefix (114 ∷ 111 ∷ 111 ∷ 109 ∷ 32 ∷ 49 ∷ 32 ∷ 50 ∷ 32 ∷ 51 ∷ 48 ∷ 32 ∷ 108 ∷ 101 ∷ 98 ∷ 32 ∷ 48 ∷ 48 ∷ [])) ∷ []), accepted ((1 ∷ 1 ∷ 2 ∷ 30 ∷ 12 ∷ []) ∷ []))
    -- `room 5 x 3`, a bad one
    ∷ (accepted (room_numbers (room_prefix (114 ∷ 111 ∷ 111 ∷ 109 ∷ 32 ∷ 53 ∷ 32 ∷ 120 ∷ 32 ∷ 51 ∷ [])) ∷ []), accepted ((5 ∷ 0 ∷ 0 ∷ []) ∷ []))
    -- `leb` is named so, and not behind a NUL
    ∷ (accepted ((bool_byte (is_named (ascii "leb") (108 ∷ 101 ∷ 98 ∷ 32 ∷ 48 ∷ 48 ∷ [])) ∷ bool_byte (is_named (ascii "leb") (0 ∷ 108 ∷ 101 ∷ 98 ∷ [])) ∷ []) ∷ []), accepted ((1 ∷ 0 ∷ []) ∷ []))
    -- `bits 0a0b 12 3`, whose fields start at 5
    ∷ (accepted (field_numbers (fields_of (98 ∷ 105 ∷ 116 ∷ 115 ∷ 32 ∷ 48 ∷ 97 ∷ 48 ∷ 98 ∷ 32 ∷ 49 ∷ 50 ∷ 32 ∷ 51 ∷ []) 5 (just (plain Bytes ∷ plain Number ∷ plain Number ∷ [])) (1 ∷ 2 ∷ 3 ∷ []) (9 ∷ 9 ∷ []) (8 ∷ 8 ∷ 8 ∷ []))), accepted ((15 ∷ 2 ∷ 1 ∷ 2 ∷ []) ∷ (10 ∷ 11 ∷ 3 ∷ []) ∷ (2 ∷ 9 ∷ []) ∷ (12 ∷ 3 ∷ 8 ∷ []) ∷ []))
    -- `x 00 q`, whose fields start at 2, and whose number is bad
    ∷ (accepted (field_numbers (fields_of (120 ∷ 32 ∷ 48 ∷ 48 ∷ 32 ∷ 113 ∷ []) 2 (just (plain Bytes ∷ plain Number ∷ plain Number ∷ [])) (1 ∷ 2 ∷ []) (9 ∷ []) (8 ∷ []))), accepted ((0xffffffffffffffff ∷ 1 ∷ 1 ∷ 0 ∷ 1 ∷ []) ∷ (0 ∷ 2 ∷ []) ∷ (1 ∷ []) ∷ (8 ∷ []) ∷ []))
    -- `ok 1 120032002a00`, and with ` dirty` behind it where the byte behind the answer has changed
    ∷ (stream_answer 0xa5, accepted ((111 ∷ 107 ∷ 32 ∷ 49 ∷ 32 ∷ 49 ∷ 50 ∷ 48 ∷ 48 ∷ 51 ∷ 50 ∷ 48 ∷ 48 ∷ 50 ∷ 97 ∷ 48 ∷ 48 ∷ 10 ∷ []) ∷ []))
    ∷ (stream_answer 0xa4, accepted ((111 ∷ 107 ∷ 32 ∷ 49 ∷ 32 ∷ 49 ∷ 50 ∷ 48 ∷ 48 ∷ 51 ∷ 50 ∷ 48 ∷ 48 ∷ 50 ∷ 97 ∷ 48 ∷ 48 ∷ 32 ∷ 100 ∷ 105 ∷ 114 ∷ 116 ∷ 121 ∷ 10 ∷ []) ∷ []))
    -- `no 24 7`, assembly refused at a segment
    ∷ (printed (told (record { refusal = Some 24; bytes = 0; ends = 0; numbers = 1; is_dirty = false }) [] [] (7 ∷ [])) (then_any (plain Number ∷ plain Number ∷ plain Named ∷ []) (plain Tells ∷ [])) true, accepted ((110 ∷ 111 ∷ 32 ∷ 50 ∷ 52 ∷ 32 ∷ 55 ∷ 10 ∷ []) ∷ []))
    -- `ok 5 - no 14`, units played
    ∷ (printed (told (record { refusal = None; bytes = 0; ends = 0; numbers = 6; is_dirty = false }) [] [] (2 ∷ 5 ∷ 5 ∷ 256 ∷ 8 ∷ 14 ∷ [])) (any (plain Tells ∷ [])) true, accepted ((111 ∷ 107 ∷ 32 ∷ 53 ∷ 32 ∷ 45 ∷ 32 ∷ 110 ∷ 111 ∷ 32 ∷ 49 ∷ 52 ∷ 10 ∷ []) ∷ []))
    -- `ok 7`, told in place of the number behind it; `ok 7 8`, whose second item tells the third
    ∷ (printed (told (record { refusal = None; bytes = 0; ends = 0; numbers = 3; is_dirty = false }) [] [] (2 ∷ 7 ∷ 9 ∷ [])) (just (plain Tells ∷ plain Number ∷ [])) true, accepted ((111 ∷ 107 ∷ 32 ∷ 55 ∷ 10 ∷ []) ∷ []))
    ∷ (printed (told (record { refusal = None; bytes = 0; ends = 0; numbers = 4; is_dirty = false }) [] [] (0x0902 ∷ 7 ∷ 2 ∷ 8 ∷ [])) (any (plain Tells ∷ [])) true, accepted ((111 ∷ 107 ∷ 32 ∷ 55 ∷ 32 ∷ 56 ∷ 10 ∷ []) ∷ []))
    ∷ []

-- What the requests on bits, OBUs and headers are answered, with the memory lent to them.
use Rattle.std.specs.Prelude.{ℕ, ◌%◌, ◌^◌, ◌≡◌, List, [], ◌∷◌, cond as pick, length, eqb}
use Rattle.std.specs.Prelude.{Option as Optional, Some, None}
use Rattle.std.proofs.Math.Option.{Option, none, some}
use mir.Val.{bool_byte}
use Rattle.bitio.specs.Parse.{Answer, refused, accepted, answer, and_next}
use Rattle.bitio.specs.Limits.{limited}
use Rattle.bitio.specs.Bits.{Reading, fails, reads, read_bits}
use Rattle.bitio.specs.Uvlc.{read_uvlc}
use Rattle.bitio.specs.Leb.{read_leb, leb_answer, leb_bytes}
use Rattle.bitio.specs.Lent.{placed, lent}
use Rattle.obu.specs.Obu.{Obu, obus}
use Rattle.obu.specs.Write.{obu_placed, obu_lent}
use Rattle.header.specs.Sequence.{Sequence, parse_sequence}
use Rattle.header.specs.Support.{support}
use Rattle.header.specs.Timed.{timed}
use Rattle.emit.specs.Emit.{emit_placed, emit_lent}
use Rattle.frame.specs.Frame.{parse_frame_from}
use Rattle.frame.specs.FrameType.{type_number}
use Rattle.frame.specs.declared.frame_header.FrameHeaderInfo.{FrameHeaderInfo}
use Rattle.frame.specs.declared.frame_header.FrameHeaderInfo.TheVariants.{Existing, Frame}
use Rattle.protocol.specs.Answers.{Line, parts_of, refused_with, Numbered, Filled, filled}
use Rattle.protocol.specs.Kinds.{no_byte}
use Rattle.protocol.specs.Told.{told_by, count_told, numbers_by, Told, told, tell_numbers, tell_parts}
use Rattle.replay_headers.specs.Fields.{sequence_fields}

-- ---- bits and leb128: a number, and the place behind it

abbrev pub reading_answer : Reading ℕ → Answer (List ℕ)
reading_answer (fails k) = refused k
reading_answer (reads v p) = accepted (v ∷ p ∷ [])

-- 4: no number
abbrev pub leb_says : Optional (ℕ × ℕ) → Answer (List ℕ)
leb_says (Some (v, n)) = accepted (v ∷ n ∷ [])
leb_says None = refused 4

-- bits DATA POS N
abbrev pub bits_told : List ℕ → ℕ → ℕ → List ℕ → Numbered
bits_told s pos n ns = numbers_by (λ l. l) (reading_answer (read_bits s pos n)) ns

-- uvlc DATA POS
abbrev pub uvlc_told : List ℕ → ℕ → List ℕ → Numbered
uvlc_told s pos ns = numbers_by (λ l. l) (reading_answer (read_uvlc s pos)) ns

-- leb DATA
abbrev pub leb_told : List ℕ → List ℕ → Numbered
leb_told s ns = numbers_by (λ l. l) (leb_says (leb_answer s (read_leb s))) ns

-- lebput V
abbrev pub lebput_told : ℕ → List ℕ → Filled
lebput_told v m = filled (count_told (placed m 0 (leb_bytes v))) (lent m 0 (leb_bytes v))

-- ---- OBUs

-- an extension byte
abbrev pub extension_number : Option ℕ → ℕ
extension_number none = no_byte
extension_number (some e) = e

abbrev pub extension_from : ℕ → Option ℕ
extension_from v = pick (eqb v no_byte) none (some (v % 256))

-- type and extension as numbers, the payload as a part
abbrev pub tell_obu : Told → Obu → Told
tell_obu t o = tell_parts (tell_numbers t (o.type ∷ extension_number o.ext ∷ [])) (o.payload ∷ [])

unfoldable pub tell_obus : Told → List Obu → Told
tell_obus t [] = t
tell_obus t (o ∷ os) = tell_obus (tell_obu t o) os

-- u is t with all OBUs of s, if it reads
abbrev pub AllTold : List ℕ → Told → Told → Type 0
AllTold s t u = (os : List Obu) → obus s ≡ accepted os → u ≡ tell_obus t os

-- how many there are, and each
abbrev pub list_told : Answer (List Obu) → List ℕ → List ℕ → List ℕ → Told
list_told (refused k) s es ns = told (refused_with k) s es ns
list_told (accepted os) s es ns = tell_obus (tell_numbers (told (parts_of 0 0) s es ns) (length os ∷ [])) os

-- obus UNIT
abbrev pub obus_told : List ℕ → (m es ns : List ℕ) → Told
obus_told s m es ns = list_told (obus s) m es ns

-- obuput TYPE EXT PAYLOAD
abbrev pub obuput_told : ℕ → ℕ → List ℕ → List ℕ → Filled
obuput_told kind ext s m =
    filled (count_told (obu_placed m 0 (kind % 256) (extension_from ext) s)) (obu_lent m 0 (kind % 256) (extension_from ext) s)

-- ---- headers

-- a payload's header, 34 leading
abbrev pub header_of : List ℕ → Answer Sequence
header_of s = limited s (parse_sequence s)

unfoldable pub support_of : List ℕ → Answer Unit
support_of s = and_next (header_of s) (λ q. support q.header)

-- seq PAYLOAD
abbrev pub seq_told : List ℕ → List ℕ → Numbered
seq_told s ns = numbers_by sequence_fields (header_of s) ns

-- support PAYLOAD
abbrev pub support_told : List ℕ → Line
support_told s = told_by (λ _. parts_of 0 0) (support_of s)

-- a header timed, with its operating points
abbrev pub retimed : ℕ → ℕ → Sequence → Answer Sequence
retimed num den q = answer (λ h. record { header = h; points = q.points }) (timed num den q.header)

unfoldable pub timed_of : ℕ → ℕ → List ℕ → Answer Sequence
timed_of num den s = and_next (header_of s) (retimed num den)

-- a header's payload at the head of lent memory
abbrev pub emitted_told : Answer Sequence → List ℕ → Filled
emitted_told (refused k) m = filled (refused_with k) m
emitted_told (accepted q) m = filled (count_told (emit_placed m 0 q)) (emit_lent m 0 q)

-- emit PAYLOAD
abbrev pub emit_told : List ℕ → List ℕ → Filled
emit_told s m = emitted_told (header_of s) m

-- timed PAYLOAD NUM DEN
abbrev pub timed_told : List ℕ → ℕ → ℕ → List ℕ → Filled
timed_told s num den m = emitted_told (timed_of (num % 2 ^ 32) (den % 2 ^ 32) s) m

abbrev pub frame_fields : FrameHeaderInfo → List ℕ
frame_fields (Existing slot) = 1 ∷ slot ∷ []
frame_fields (Frame f) = 0 ∷ type_number f.frame_type ∷ bool_byte f.show_frame ∷ bool_byte f.showable_frame ∷ f.refresh_frame_flags ∷ f.order_hint ∷ []

-- frame SEQUENCE FRAME
abbrev pub frame_told : List ℕ → List ℕ → List ℕ → Numbered
frame_told sequence s ns = numbers_by frame_fields (limited s (limited sequence (parse_frame_from sequence s))) ns

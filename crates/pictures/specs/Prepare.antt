-- One segment's units as they go out, and what is asked of them (01, 'Unit list and cue list').
use Rattle.std.specs.Prelude.{ℕ, zero, suc, ◌/◌, ◌%◌, List, [], ◌∷◌, map, Bool, false, cond as pick, ◌&&◌, eqb}
use Rattle.std.proofs.Math.Option.{Option, none, some}
use Rattle.bitio.specs.Parse.{Answer, refused, accepted, and_next}
use Rattle.obu.specs.Obu.{Obu, obus, unit_bytes}
use Rattle.obu.specs.Unit.{is_sequence, has}
use Rattle.header.specs.Sequence.{Sequence}
use Rattle.header.specs.Timed.{is_timed, timed_at}
use Rattle.emit.specs.Emit.{sequence_bytes}
use Rattle.frame.specs.FrameType.{is_key}
use Rattle.frame.specs.Frame.{show_byte}
use Rattle.frame.specs.UnitFrame.{unit_frame}
use Rattle.frame.specs.declared.frame_header.FrameHeaderInfo.{FrameHeaderInfo}
use Rattle.frame.specs.declared.frame_header.FrameHeaderInfo.TheVariants.{Existing, Frame}
use Rattle.pictures.specs.Segments.{Segment}
-- gop_size, fps and fps_den, as the code has them
pub use Rattle.pictures.specs.declared.settings.Settings.{Settings}

-- the first OBU that passes; n: there is none
unfoldable pub first_of : ℕ → (Obu → Bool) → List Obu → Answer Obu
first_of n pass [] = refused n
first_of n pass (o ∷ os) = pick (pass o) (accepted o) (first_of n pass os)

-- ---- timing

-- q timed at fps over fps_den
abbrev pub timed_sequence : Settings → Sequence → Sequence
timed_sequence set q = timed_at set.fps set.den q

-- the header that goes out: timed if it was not
abbrev pub effective : Settings → Sequence → Sequence
effective set q = pick (is_timed q.header) q (timed_sequence set q)

-- 01, timing absent: sequence headers are replaced, by this payload
abbrev pub renewal : Settings → Sequence → Option (List ℕ)
renewal set q = pick (is_timed q.header) none (some (sequence_bytes (timed_sequence set q)))

-- o with a new payload if it is a sequence header; its extension is kept
abbrev pub renewed : List ℕ → Obu → Obu
renewed new o = record { type = o.type; ext = o.ext; payload = pick (is_sequence o) new o.payload }

-- a unit's bytes as they go out. 01, timing absent: units holding a sequence header are rewritten; else units are copied
unfoldable pub sent : Option (List ℕ) → List ℕ → Answer (List ℕ)
sent none u = accepted u
sent (some new) u = and_next (obus u) (λ os. accepted (pick (has is_sequence os) (unit_bytes (map (renewed new) os)) u))

-- ---- frames

-- 29 not a shown key
abbrev pub key_ok : FrameHeaderInfo → Answer Unit
key_ok (Existing slot) = refused 29
key_ok (Frame f) = pick (is_key f.frame_type && f.show_frame) (accepted tt) (refused 29)

-- the refresh flags of a golden. Refused: one that shows a slot again 30, that is hidden 31, that is a key 32, that keeps nothing 33
abbrev pub golden_flags : FrameHeaderInfo → Answer ℕ
golden_flags (Existing slot) = refused 30
golden_flags (Frame f) =
    pick f.show_frame (
    pick (is_key f.frame_type) (refused 32) (
    pick (eqb f.refresh_frame_flags 0) (refused 33) (accepted f.refresh_frame_flags))) (refused 31)

-- the lowest of n slots whose bit is set; n where none is
abbrev pub lowest : ℕ → ℕ → ℕ
lowest zero flags = 0
lowest (suc n) flags = pick (eqb (flags % 2) 1) 0 (suc (lowest n (flags / 2)))

-- 01: the show index is the lowest slot refreshed; flags have eight bits, and 8 stands for none
unfoldable pub slot_of : ℕ → ℕ
slot_of flags = lowest 8 (flags % 256)

-- ---- a segment

-- both units as they go out, and the slot that the show units name
pub record Prepared : Type 0 where
  pub key : List ℕ
  pub golden : List ℕ
  pub slot : ℕ

-- what is asked of a key and a golden, and then f of the slot: key 1 to 5, 28, 14, 29; golden 1 to 5, 28, 14, 30 to 33
abbrev pub asked : {A : Type 0} → Sequence → (key golden : List ℕ) → (ℕ → Answer A) → Answer A
asked q key golden f =
    and_next (unit_frame false q key) (λ y.
    and_next (key_ok y) (λ _.
    and_next (unit_frame false q golden) (λ z.
    and_next (golden_flags z) (λ flags.
    f (slot_of flags)))))

-- key, then golden, 1 to 5 if rewriting; then what is asked of them
unfoldable pub prepare : Sequence → Option (List ℕ) → Segment → Answer Prepared
prepare q new x =
    and_next (sent new x.key) (λ k.
    and_next (sent new x.golden) (λ g.
    asked q x.key x.golden (λ slot. accepted (record { key = k; golden = g; slot = slot }))))

-- ---- show units

-- a delimiter, and a frame header OBU of one byte
abbrev pub show_unit : ℕ → List ℕ
show_unit slot = 0x12 ∷ 0x00 ∷ 0x1A ∷ 0x01 ∷ show_byte slot ∷ []

-- What demand 3 asks of the segments (01's boards) and the settings.
use Rattle.std.specs.Prelude.{ℕ, ◌^◌, ◌<◌, ◌≡◌, List, [], ◌∷◌, true, false}
use Rattle.bitio.specs.Parse.{accepted}
use Rattle.bitio.specs.Every.{Every}
use Rattle.obu.specs.Obu.{Obu, Written}
use Rattle.obu.specs.Unit.{is_sequence, is_frame, is_delimiter, count, sequence_payload}
use Rattle.header.specs.Sequence.{Sequence, parse_sequence}
use Rattle.pictures.specs.Segments.{Segment}
use Rattle.pictures.specs.declared.settings.Settings.{Settings}

-- 01, 'What demand 3 speaks of': the list's sequence header is that of the first key
abbrev pub list_header : List Segment → List ℕ
list_header [] = []
list_header (x ∷ xs) = sequence_payload x.key

-- the first OBU is a temporal delimiter and no other is
abbrev pub Delimited : List Obu → Type 0
Delimited [] = ⊥
Delimited (o ∷ os) = (is_delimiter o ≡ true) × (count is_delimiter os ≡ 0)

-- a sequence header's payload is s
abbrev pub SequenceIs : List ℕ → Obu → Type 0
SequenceIs s o = is_sequence o ≡ true → o.payload ≡ s

-- a unit u among the keys and goldens, s being the list's sequence header
pub record Premise (s u : List ℕ) : Type 0 where
  -- 1. it is in written form (01, 'Units from a stream'): its OBUs, written, are its bytes
  pub held : List Obu
  pub written : Written u held
  -- 2. its first OBU is a temporal delimiter and no other is
  pub delimited : Delimited held
  -- 3. exactly one OBU is a frame
  pub single : count is_frame held ≡ 1
  -- 4. the payload of every sequence header OBU in it is s
  pub same : Every (SequenceIs s) held

-- 1 to 4 of each key and golden
pub record Formed (xs : List Segment) : Type 0 where
  pub keys : Every (λ x. Premise (list_header xs) x.key) xs
  pub goldens : Every (λ x. Premise (list_header xs) x.golden) xs

pub record Premises (xs : List Segment) : Type 0 where
  pub formed : Formed xs
  -- 5. the list's sequence header has no decoder model
  pub no_model : (q : Sequence) → parse_sequence (list_header xs) ≡ accepted q → q.header.opening.model.decoder_model_info_present ≡ false

-- fps and fps_den are u32, as the fields that 01 gives them ('Unit list and cue list')
pub record InFields (set : Settings) : Type 0 where
  pub fps : set.fps < 2 ^ 32
  pub den : set.den < 2 ^ 32

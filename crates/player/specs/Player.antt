-- The player (01, 'Player (added)'): eight slots, a kept sequence header, and what playing one unit does.
use Rattle.std.specs.Prelude.{ℕ, List, [], ◌∷◌, Bool, true, cond as pick, length, get_or, replicate, Option as Optional, Some, None}
use Rattle.std.proofs.Math.Option.{Option, none, some}
use Rattle.bitio.specs.Parse.{Answer, refused, accepted, and_next}
use Rattle.bitio.specs.Limits.{led34}
use Rattle.obu.specs.Obu.{Obu, obus}
use Rattle.obu.specs.Unit.{is_sequence}
use Rattle.header.specs.Sequence.{Sequence}
use Rattle.header.specs.Support.{supported_sequence}
use Rattle.frame.specs.FrameType.{is_key}
use Rattle.frame.specs.Frame.{parse_frame}
use Rattle.frame.specs.Refresh.{refresh}
use Rattle.frame.specs.UnitFrame.{frame_payload}
use Rattle.frame.specs.declared.frame_header.FrameHeaderInfo.{FrameHeaderInfo}
use Rattle.frame.specs.declared.frame_header.FrameHeaderInfo.TheVariants.{Existing, Frame}
use Rattle.player.specs.declared.slots.Slot.{Slot}

-- ---- the slots

-- 01: what a slot holds: nothing, or a unit position, with the marks showable and key
abbrev pub Held : Type 0
Held = Optional Slot

abbrev pub empty : Held
empty = None

abbrev pub filled : ℕ → Bool → Bool → Held
filled q showable key = Some (record { position = q; showable = showable; key = key })

-- the position shown, if any, and the slots afterwards
pub record Shown : Type 0 where
  pub shown : Option ℕ
  pub slots : List Held

-- AV1 7.21: a slot is shown; if it holds a key, the key goes to every slot with its marks. 37 slot empty, 38 not showable
abbrev pub show_slot : List Held → Held → Answer Shown
show_slot slots None = refused 37
show_slot slots (Some s) =
    pick s.showable (accepted (record { shown = some s.position; slots = pick s.key (replicate 8 (Some s)) slots })) (refused 38)

-- a frame, played under position p
abbrev pub act : List Held → ℕ → FrameHeaderInfo → Answer Shown
act slots p (Existing i) = show_slot slots (get_or slots i empty)
act slots p (Frame f) =
    accepted (record {
      shown = pick f.show_frame (some p) none;
      slots = refresh f.refresh_frame_flags (filled p f.showable_frame (is_key f.frame_type)) slots;
    })

-- ---- a unit

pub record State : Type 0 where
  pub slots : List Held
  pub kept : Option Sequence

-- eight empty slots and no header
abbrev pub start : State
start = record { slots = replicate 8 empty; kept = none }

-- 01: of the sequence headers in a unit, each of which is read (14 to 16, 17 to 20), the last is what is kept, as f has it
unfoldable pub keep_as : {K : Type 0} → (Sequence → K) → K → List Obu → Answer K
keep_as f k [] = accepted k
keep_as f k (o ∷ os) =
    pick (is_sequence o)
    (and_next (supported_sequence o.payload) (λ q. keep_as f (f q) os))
    (keep_as f k os)

abbrev pub keep : Option Sequence → List Obu → Answer (Option Sequence)
keep k os = keep_as (λ q. some q) k os

-- 26 if there has been none
abbrev pub known : Option Sequence → Answer Sequence
known none = refused 26
known (some q) = accepted q

pub record Played : Type 0 where
  pub shown : Option ℕ
  pub state : State

-- The unit u, played under position p. Refusals, in this order: 34, those of its OBUs, those of its sequence headers, 26, 28, 39,
-- 14 of its frame header, 37, 38.
unfoldable pub play : State → ℕ → List ℕ → Answer Played
play st p u =
    led34 (length u) (
    and_next (obus u) (λ os.
    and_next (keep st.kept os) (λ k.
    and_next (known k) (λ q.
    and_next (frame_payload true os) (λ f.
    and_next (parse_frame q f) (λ x.
    and_next (act st.slots p x) (λ r.
    accepted (record { shown = r.shown; state = record { slots = r.slots; kept = some q } }))))))))

-- 01: after a refusal the state is what it was before
abbrev pub leaves : State → Answer Played → State
leaves st (refused n) = st
leaves st (accepted r) = r.state

abbrev pub state_after : State → ℕ → List ℕ → State
state_after st p u = leaves st (play st p u)

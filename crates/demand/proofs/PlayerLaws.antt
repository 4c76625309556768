-- Laws of the player: the slots that a frame fills, the header that a unit leaves, and the outcome of an accepted play.
use Prim.Native.Nat.{ℕ, zero, suc, ◌+◌, ◌/◌, ◌%◌, ◌^◌, ◌≤◌, ◌<◌}
use native.Mathlib.Omega.{arith}
use mathlib.Core.Path.{◌≡◌, refl, ap, ◌∙◌}
use mathlib.Core.List.{List, [], ◌∷◌}
use mathlib.Core.Bool.{Bool, true, false, cond as pick, ◌||◌}
use mathlib.Core.Option.{Option, some}
use lib.ListN.{length, get_or}
use lib.Pow.{shr-shr}
use borrow.Author.Tests.{le-leb}
use Rattle.bitio.specs.Parse.{accepted, and_next}
use Rattle.bitio.specs.Limits.{limit}
use Rattle.bitio.specs.Every.{Every}
use Rattle.bitio.specs.Every.Every.{nothing, also}
use Rattle.obu.specs.Obu.{Obu, obus}
use Rattle.obu.specs.Unit.{is_frame, has, count, first_payload, is_sequence}
use Rattle.header.specs.Sequence.{Sequence, parse_sequence}
use Rattle.header.specs.Support.{support, supported_sequence}
use Rattle.frame.specs.Frame.{parse_frame}
use Rattle.frame.specs.declared.frame_header.FrameHeaderInfo.{FrameHeaderInfo}
use Rattle.frame.specs.UnitFrame.{frame_payload}
use Rattle.frame.specs.Refresh.{refresh}
use Rattle.player.specs.Player.{Held, empty, Shown, act, State, keep_as, keep, play}
use Rattle.demand.specs.Premises.{SequenceIs}

-- a frame fills the slots whose bits are set
pub filled_at : (flags i : ℕ) (new : Held) (ss : List Held) → i < length ss → flags / 2 ^ i % 2 ≡ 1 → get_or (refresh flags new ss) i empty ≡ new
unfolding refresh
filled_at flags i new [] h e = absurd (omega arith)
filled_at flags zero new (s ∷ ss) h e = let b : flags % 2 ≡ 1 = omega arith in rw b
filled_at flags (suc i) new (s ∷ ss) h e =
    let n : 1 + i ≡ suc i = omega arith in
    let d : flags / 2 / 2 ^ i ≡ flags / 2 ^ suc i = shr-shr flags 1 i ∙ ap (λ (k : ℕ). flags / 2 ^ k) n in
    filled_at (flags / 2) i new ss (omega arith) (ap (λ (x : ℕ). x % 2) d ∙ e)

-- ---- the header that a unit leaves

module _ (s : List ℕ) (q : Sequence) (read : parse_sequence s ≡ accepted q) (fine : support q.header ≡ accepted tt) where
  supported : supported_sequence s ≡ accepted q
  unfolding supported_sequence and_next
  supported = rw (read, fine)

  -- a unit whose sequence payloads are all s leaves its header
  pub keep_same : {os : List Obu} → Every (SequenceIs s) os → keep (some q) os ≡ accepted (some q)
  unfolding keep_as and_next
  keep_same nothing = refl
  keep_same (also {a = o} {l = os} e es) = go (is_sequence o) e (keep_same es)
    where
      go : (t : Bool) → (t ≡ true → o.payload ≡ s) → keep (some q) os ≡ accepted (some q)
          → pick t (and_next (supported_sequence o.payload) (λ q. keep (some q) os)) (keep (some q) os) ≡ accepted (some q)
      go true w ih = rw (w refl, supported) ih
      go false w ih = ih

  pub keep-first : (k : Option Sequence) {os : List Obu} → Every (SequenceIs s) os → has is_sequence os ≡ true → keep k os ≡ accepted (some q)
  unfolding keep_as and_next has
  keep-first k nothing h = cc
  keep-first k (also {a = o} {l = os} e es) h = go (is_sequence o) e h (λ w. keep-first k es w)
    where
      go : (t : Bool) → (t ≡ true → o.payload ≡ s) → (t || has is_sequence os) ≡ true → (has is_sequence os ≡ true → keep k os ≡ accepted (some q))
          → pick t (and_next (supported_sequence o.payload) (λ q. keep (some q) os)) (keep k os) ≡ accepted (some q)
      go true w h ih = rw (w refl, supported) (keep_same es)
      go false w h ih = ih h

-- ---- the outcome of a play

-- the frame of a unit that has one
pub sole-is : (sole : Bool) (os : List Obu) → count is_frame os ≡ 1 → frame_payload sole os ≡ accepted (first_payload is_frame os)
unfolding frame_payload
sole-is true os e = rw e
sole-is false os e = rw e

pub play-is : (st : State) (p : ℕ) (u : List ℕ) (os : List Obu) (q : Sequence) (x : FrameHeaderInfo) (r : Shown) → length u ≤ limit → obus u ≡ accepted os
    → keep st.kept os ≡ accepted (some q) → count is_frame os ≡ 1 → parse_frame q (first_payload is_frame os) ≡ accepted x → act st.slots p x ≡ accepted r
    → play st p u ≡ accepted (record { shown = r.shown; state = record { slots = r.slots; kept = some q } })
unfolding play and_next
play-is st p u os q x r n a b c d e = rw (le-leb (length u) limit n, a, b, sole-is true os c, d, e)

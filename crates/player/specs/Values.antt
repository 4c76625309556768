-- The player's values in the code: what they say, and what its functions leave.
use Rattle.std.specs.Prelude.{ℕ, List, replicate, Option as Optional, Some, None, Result, Ok, Err}
use Rattle.std.proofs.Math.Option.{Option, none, some}
use Rattle.bitio.specs.Parse.{Answer, refused, accepted, and_next}
use Rattle.bitio.specs.Refusal.{number}
use Rattle.bitio.specs.declared.refusal.Refusal.{Refusal}
use Rattle.header.specs.Sequence.{Sequence, in_array, sequence_in}
use Rattle.header.specs.Support.{supported_sequence}
use Rattle.header.specs.declared.seq_header.SequenceObu.{SequenceObu}
use Rattle.obu.specs.Obu.{obus}
use Rattle.player.specs.Player.{Held, empty, Shown, State, keep_as, Played, play}
use Rattle.player.specs.declared.play.State.{State as CodeState}

-- the position shown, or that nothing is shown, or 01's number
abbrev pub shown_says : Result (Optional ℕ) Refusal → Answer (Option ℕ)
shown_says (Ok (Some p)) = accepted (some p)
shown_says (Ok None) = accepted none
shown_says (Err e) = refused (number e)

-- the slots behind a frame and the position that it shows, if any, or 01's number
abbrev pub step_says : Result (List Held × Optional ℕ) Refusal → Answer Shown
step_says (Ok (ss, Some p)) = accepted (record { shown = some p; slots = ss })
step_says (Ok (ss, None)) = accepted (record { shown = none; slots = ss })
step_says (Err e) = refused (number e)

-- ---- the kept header

-- a header that is kept; the points behind its last are zeros
abbrev pub kept_of : Sequence → Optional SequenceObu
kept_of q = Some (in_array q)

abbrev pub kept_says : Optional SequenceObu → Option Sequence
kept_says None = none
kept_says (Some x) = some (sequence_in x)

-- of one sequence payload: 14 to 16, 17 to 20, or the header
abbrev pub header_kept : List ℕ → Answer (Optional SequenceObu)
header_kept s = and_next (supported_sequence s) (λ q. accepted (kept_of q))

-- what is kept behind the unit u: 1 to 5, 14 to 16, 17 to 20
unfoldable pub kept_behind : Optional SequenceObu → List ℕ → Answer (Optional SequenceObu)
kept_behind k u = and_next (obus u) (keep_as kept_of k)

-- ---- a unit played

abbrev pub state_says : CodeState → State
state_says s = record { slots = s.slots; kept = kept_says s.kept }

-- eight empty slots and no header
abbrev pub start_state : CodeState
start_state = record { slots = replicate 8 empty; kept = None }

-- the state st behind a unit that was refused, or played with the header k kept
abbrev pub left_in : CodeState → Answer (Optional SequenceObu) → Answer Played → CodeState
left_in st k (refused n) = st
left_in st (refused n) (accepted r) = st
left_in st (accepted k) (accepted r) = record { slots = r.state.slots; kept = k }

-- the state behind the unit u, played under position p
unfoldable pub state_left : CodeState → ℕ → List ℕ → CodeState
state_left st p u = left_in st (kept_behind st.kept u) (play (state_says st) p u)

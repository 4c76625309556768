-- What playing units from a cue on shows, position by position.
use Rattle.std.specs.Prelude.{ℕ, suc, ◌+◌, ◌-◌, ◌≤◌, ◌≡◌, List, [], ◌∷◌, map, cond as pick, ◌&&◌, length, drop, leb, Option as Optional, Result}
use Rattle.std.proofs.Math.Option.{Option}
use Rattle.bitio.specs.Parse.{Answer, refused, accepted, answer, and_next}
use Rattle.bitio.specs.Limits.{led34}
use Rattle.bitio.specs.declared.refusal.Refusal.{Refusal}
use Rattle.container.specs.Units.{units_at}
use Rattle.player.specs.Player.{State, start, Played, play, state_after}
use Rattle.player.specs.Values.{shown_says}

-- ---- what a position shows

-- by the player: the position shown, if any, or a refusal
abbrev pub shown_of : Answer Played → Answer (Option ℕ)
shown_of x = answer (λ r. r.shown) x

-- of positions, one after the other
abbrev pub Shows : Type 0
Shows = List (Answer (Option ℕ))

-- the same as the code hands them out
abbrev pub all_say : List (Result (Optional ℕ) Refusal) → Shows
all_say xs = map shown_says xs

-- ---- units played

-- the units played in order from the state st, the first under position p and each other under the next
unfoldable pub shown_from : State → ℕ → List (List ℕ) → Shows
shown_from st p [] = []
shown_from st p (u ∷ us) = shown_of (play st p u) ∷ shown_from (state_after st p u) (suc p) us

-- 01: positions count from 1; from the cue to the last, from eight empty slots and no kept header
unfoldable pub shown_by : ℕ → List (List ℕ) → Shows
shown_by cue us = shown_from start cue (drop (cue - 1) us)

-- 36: the cue is no position of the units; 35: there is no room for so many answers
abbrev pub from_cue : ℕ → ℕ → List (List ℕ) → Answer Shows
from_cue room cue us =
    pick (leb 1 cue && leb cue (length us)) (pick (leb (length (shown_by cue us)) room) (accepted (shown_by cue us)) (refused 35)) (refused 36)

-- units in lent memory, s their bytes and es their ends: 34 leads, 36 is next
unfoldable pub play_from : ℕ → ℕ → List ℕ → List ℕ → Answer Shows
play_from room cue s es = led34 (length s) (and_next (units_at s es) (from_cue room cue))

-- ---- for the code

-- the units are all there, the cue is one's position, and each position from the cue on has one of so many places
pub record CanPlay (s es : List ℕ) (cue places : ℕ) : Type 0 where
  pub all : List (List ℕ)
  pub cut : units_at s es ≡ accepted all
  pub from : 1 ≤ cue
  pub to : cue ≤ length es
  pub room : length es + 1 ≤ cue + places

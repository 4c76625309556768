-- Courses of events: units played one after the other, with refused ones anywhere between (01, 'What demand 3 speaks of', the last point).
use Rattle.std.specs.Prelude.{ℕ, suc, ◌≡◌, List, [], ◌∷◌}
use Rattle.bitio.specs.Parse.{refused}
use Rattle.player.specs.Player.{State, play, state_after}

-- From the state st, the units us are played in order, the first under position p and each other under the next.
-- The state goes from each play to the next, untouched by anything else.
pub data Course : State → ℕ → List (List ℕ) → Type 0 where
  done : {st : State} {p : ℕ} → Course st p []
  plays : {st : State} {p : ℕ} {u : List ℕ} {us : List (List ℕ)} → Course (state_after st p u) (suc p) us → Course st p (u ∷ us)
  -- Any bytes v under any position q may be played first, as often as one likes, as long as that play is refused: before, between and behind the units.
  noise : {st : State} {p : ℕ} {us : List (List ℕ)} (q : ℕ) (v : List ℕ) (n : ℕ) → play st q v ≡ refused n → Course (state_after st q v) p us → Course st p us

-- P holds of each unit's position and of the state in which it is played
unfoldable pub Throughout : (ℕ → State → Type 0) → {st : State} {p : ℕ} {us : List (List ℕ)} → Course st p us → Type 0
Throughout P done = Unit
Throughout P (plays {st} {p} k) = (P p st) × (Throughout P k)
Throughout P (noise q v n e k) = Throughout P k

-- AV1 7.20: what refresh_frame_flags do to the slots, whatever a slot holds.
use Rattle.std.specs.Prelude.{ℕ, ◌/◌, ◌%◌, List, [], ◌∷◌, cond as pick, eqb}

-- each slot whose bit is set takes the frame
unfoldable pub refresh : {A : Type 0} → ℕ → A → List A → List A
refresh flags new [] = []
refresh flags new (s ∷ ss) = pick (eqb (flags % 2) 1) new s ∷ refresh (flags / 2) new ss

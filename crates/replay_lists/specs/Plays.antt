-- What a request to play is answered: for each unit what was shown, with its kind told.
use Rattle.std.specs.Prelude.{ℕ, suc, List, [], ◌∷◌, ◌++◌}
use Rattle.std.proofs.Math.Option.{Option, none, some}
use Rattle.bitio.specs.Parse.{Answer, refused, accepted, answer}
use Rattle.obu.specs.Place.{part_in}
use Rattle.player.specs.Player.{State, start, play, state_after}
use Rattle.protocol.specs.Answers.{parts_of, Numbered, numbered, with_numbers}
use Rattle.protocol.specs.Kinds.{plain, item_code, no_byte}
use Rattle.protocol.specs.declared.kinds.Kind.TheVariants.{Number, OptionalByte, Refused}

-- a position as a number, `-`, or `no` and document 01's number
abbrev pub shown_fields : Answer (Option ℕ) → List ℕ
shown_fields (accepted (some q)) = item_code (plain Number) ∷ q ∷ []
shown_fields (accepted none) = item_code (plain OptionalByte) ∷ no_byte ∷ []
shown_fields (refused k) = item_code (plain Refused) ∷ k ∷ []

-- what the unit u, played under position p, shows
abbrev pub shown_by : State → ℕ → List ℕ → Answer (Option ℕ)
shown_by st p u = answer (λ r. r.shown) (play st p u)

-- byte string i of s, es being the ends, is played under the first position, and so on
unfoldable pub play_fields : List ℕ → List ℕ → State → ℕ → List ℕ → List ℕ
play_fields s es st i [] = []
play_fields s es st i (p ∷ ps) =
    let u = part_in s es i in
    shown_fields (shown_by st p u) ++ play_fields s es (state_after st p u) (suc i) ps

-- play POS:UNIT .., from empty slots on
abbrev pub play_told : (s es ps ns : List ℕ) → Numbered
play_told s es ps ns = with_numbers (numbered (parts_of 0 0) ns) (play_fields s es start 0 ps)

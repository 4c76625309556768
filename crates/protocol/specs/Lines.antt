-- Lines of standard input. What comes is the world's, so this says what holds of a line whatever came.
use Rattle.std.specs.Prelude.{ℕ, ◌+◌, ◌≤◌, ◌<◌, ◌≡◌, Bool, false, not, ◌||◌, List, length, drop, get_or, ltb}
use Rattle.protocol.specs.declared.input.Input.{Input}

abbrev pub start_input : Input
start_input = record { from = 0; to = 0; is_over = false }

-- no line lies behind the last line end
abbrev pub is_line : Bool → ℕ → Bool
is_line over n = not over || ltb 0 n

-- d became e by keeping the first n characters of a line; n is one more than the room where the line has more
pub record Kept (d e : List ℕ) (n : ℕ) : Type 0 where
  pub length-same : length e ≡ length d
  pub within : n ≤ length d + 1
  -- none of them is a line end
  pub inner : (k : ℕ) → k < n → get_or e k 0 ≡ 10 → ⊥
  -- behind them all is as it was
  pub behind : drop n e ≡ drop n d

-- AV1 5.9.22 skip_mode_params.
use Rattle.std.specs.Prelude.{ℕ, eqb, ◌+◌, ◌-◌, ◌%◌, ◌^◌, List, Bool, true, false, ◌&&◌, ◌||◌, cond as pick, leb, ltb, Option, Some, None}
use Rattle.std.specs.List.{fold, list_any}
use Rattle.syntax.specs.Syntax.{Syntax, done, field}
use Rattle.params.specs.declared.skip.OrderHints.{OrderHints}

-- AV1 5.9.3 get_relative_dist of two hints of so many bits, around a circle: the lower half are the distances from 0 on, the upper half
-- those below 0
abbrev pub relative_dist : ℕ → ℕ → ℕ → ℕ
relative_dist bits a b = (a + (2 ^ bits - b % 2 ^ bits)) % 2 ^ bits

-- get_relative_dist is below 0
unfoldable pub is_before : ℕ → ℕ → ℕ → Bool
is_before bits a b = leb (2 ^ (bits - 1)) (relative_dist bits a b)

-- get_relative_dist is above 0
unfoldable pub is_after : ℕ → ℕ → ℕ → Bool
is_after bits a b = ltb 0 (relative_dist bits a b) && ltb (relative_dist bits a b) (2 ^ (bits - 1))

-- after the nearest so far, if there is one
abbrev pub is_nearer : ℕ → ℕ → Option ℕ → Bool
is_nearer bits hint None = true
is_nearer bits hint (Some nearest) = is_after bits hint nearest

-- the nearest reference before the frame, when one more is seen
unfoldable pub nearer : ℕ → ℕ → Option ℕ → ℕ → Option ℕ
nearer bits frame best hint = pick (is_before bits hint frame && is_nearer bits hint best) (Some hint) best

-- forwardHint: the nearest before the frame, and the first of several that are as near
unfoldable pub forward : ℕ → ℕ → List ℕ → Option ℕ
forward bits frame refs = fold (nearer bits frame) None refs

-- a second reference, with the nearest before the frame: one behind the frame, or one before the nearest
abbrev pub has_second : ℕ → ℕ → List ℕ → Option ℕ → Bool
has_second bits frame refs None = false
has_second bits frame refs (Some nearest) =
    list_any (λ hint. is_after bits hint frame) refs || list_any (λ hint. is_before bits hint nearest) refs

-- skip_mode_allowed: one reference before the frame, and a second
unfoldable pub skip_mode_allowed : ℕ → ℕ → List ℕ → Bool
skip_mode_allowed bits frame refs = has_second bits frame refs (forward bits frame refs)

-- OrderHintBits; order_hint_bits_minus_1 has three bits
abbrev pub hint_bits : OrderHints → ℕ
hint_bits o = o.order_hint_bits_minus_1 % 8 + 1

-- AV1 5.9.22. on: an inter frame with reference_select, and order hints
unfoldable pub skip_mode_params : Bool → OrderHints → Syntax Bool
skip_mode_params on o =
    field (on && skip_mode_allowed (hint_bits o) o.order_hint o.refs) 1 (λ present.
    done (eqb present 1))

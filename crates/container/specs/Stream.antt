-- Units from a stream (01, 'Units from a stream').
use Rattle.std.specs.Prelude.{ℕ, List, [], ◌∷◌, ◌++◌, map, Bool, true, false, cond as pick, ◌||◌, ◌&&◌}
use Rattle.bitio.specs.Parse.{Answer, answer}
use Rattle.obu.specs.Obu.{Obu, obus, unit_bytes}
use Rattle.obu.specs.Unit.{is_delimiter, is_frame, has}
use Rattle.obu.specs.Place.{Place, no_more, wrong, lies}

abbrev pub has_frame : List Obu → Bool
has_frame os = has is_frame os

-- ---- grouping

-- every delimiter opens a unit, and a frame does behind another in its unit (seen)
abbrev pub opens : Bool → Obu → Bool
opens seen o = is_delimiter o || (seen && is_frame o)

-- whether the unit that o is in has a frame up to o
abbrev pub seen_after : Bool → Obu → Bool
seen_after seen o = pick (is_delimiter o) false (is_frame o || seen)

-- what still belongs to the current unit, and the units behind it
pub record Cut : Type 0 where
  pub here : List Obu
  pub next : List (List Obu)

abbrev pub put : Obu → Bool → Cut → Cut
put o true c = record { here = []; next = (o ∷ c.here) ∷ c.next }
put o false c = record { here = o ∷ c.here; next = c.next }

unfoldable pub cut : Bool → List Obu → Cut
cut seen [] = record { here = []; next = [] }
cut seen (o ∷ os) = put o (opens seen o) (cut (seen_after seen o) os)

-- the first OBU opens a unit, whatever it is
unfoldable pub group : List Obu → List (List Obu)
group [] = []
group (o ∷ os) = (put o true (cut (seen_after false o) os)).next

-- ---- joining

-- the delimiter at the head, if one is there
abbrev pub lead : List Obu → List Obu
lead [] = []
lead (o ∷ os) = pick (is_delimiter o) (o ∷ []) []

unfoldable pub others : List Obu → List Obu
others [] = []
others (o ∷ os) = pick (is_delimiter o) (others os) (o ∷ others os)

abbrev pub either : List Obu → List Obu → List Obu
either [] b = b
either (o ∷ os) b = o ∷ os

-- one delimiter stays, in front: a's if a begins with one, else b's
unfoldable pub join : List Obu → List Obu → List Obu
join a b = either (lead a) (lead b) ++ (others a ++ others b)

-- u has gone out but for what may still join it; w are the frameless units since then, end to end. They join the next unit
-- with a frame, which is joined so even with none, or at the end u.
unfoldable pub behind : List Obu → List Obu → List (List Obu) → List (List Obu)
behind u w [] = join u w ∷ []
behind u w (g ∷ gs) = pick (has_frame g) (u ∷ behind (join w g) [] gs) (behind u (w ++ g) gs)

-- the same while no unit with a frame has come: without any, all OBUs are one unit as they are
unfoldable pub joined : List Obu → List (List Obu) → List (List Obu)
joined [] [] = []
joined (o ∷ w) [] = (o ∷ w) ∷ []
joined w (g ∷ gs) = pick (has_frame g) (behind (join w g) [] gs) (joined (w ++ g) gs)

-- ---- units

unfoldable pub units : List Obu → List (List Obu)
units os = joined [] (group os)

-- 01: the units of a stream in written form, or the first OBU's refusal
unfoldable pub stream_units : List ℕ → Answer (List (List ℕ))
stream_units s = answer (λ os. map unit_bytes (units os)) (obus s)

unfoldable pub flat : {A : Type 0} → List (List A) → List A
flat [] = []
flat (u ∷ us) = u ++ flat us

-- 01, write_obu_stream: the units, one behind the other
unfoldable pub stream_bytes : List (List ℕ) → List ℕ
stream_bytes us = flat us

-- where the OBU ends that stands at `at`, or `at` if there is none
abbrev pub behind_obu : ℕ → Place → ℕ
behind_obu at no_more = at
behind_obu at (wrong k) = at
behind_obu at (lies t e a b) = b

-- Where the units of a stream lie in its bytes.
use Rattle.std.specs.Prelude.{ℕ, ◌+◌, ◌-◌, ◌≤◌, ◌<◌, ◌≡◌, List, [], ◌∷◌, ◌++◌, Bool, true, length}
use Rattle.bitio.specs.Parse.{accepted}
use Rattle.obu.specs.Obu.{Obu, obus, unit_bytes}
use Rattle.obu.specs.Unit.{is_delimiter, is_frame, count}
use Rattle.container.specs.Stream.{opens, lead, either, others, units, flat}
use Rattle.bitio.specs.Limits.{limit}
use Rattle.container.specs.code.Ranges.{Range}
use Rattle.bitio.specs.Lent.{Wrote}

-- the last delimiter, if there is one
unfoldable pub last_lead : List Obu → List Obu
last_lead [] = []
last_lead (o ∷ os) = either (last_lead os) (lead (o ∷ []))

-- the delimiter that leads a unit, by the OBUs before its frame: the first OBU if it is one, else the last one
abbrev pub led : List Obu → List Obu
led os = either (lead os) (last_lead os)

-- nothing, or an OBU that opens a unit behind a frame
abbrev pub reopens : List Obu → Bool
reopens [] = true
reopens (o ∷ os) = opens true o

-- the OBUs from `at` on, n of them frames
pub record Frames (s : List ℕ) (at n : ℕ) : Type 0 where
  pub all : List Obu
  pub range : Range s at (length s) all
  pub frames : count is_frame all ≡ n

-- from `at` past the next frame, the leading delimiter lying from a to b
pub record ToFrame (s : List ℕ) (at a b next : ℕ) : Type 0 where
  pub front : List Obu
  pub frame : Obu
  pub rest : List Obu
  pub range : Range s at next (front ++ (frame ∷ []))
  pub behind : Range s next (length s) rest
  pub waits : count is_frame front ≡ 0
  pub framed : is_frame frame ≡ true
  pub leading : Range s a b (led front)
  pub after : at ≤ a
  pub within : b ≤ next
  pub some : at < next

-- from behind a frame to where the next unit opens
pub record ToNext (s : List ℕ) (at next : ℕ) : Type 0 where
  pub front : List Obu
  pub rest : List Obu
  pub range : Range s at next front
  pub behind : Range s next (length s) rest
  pub frames : count is_frame front ≡ 0
  pub delimiters : count is_delimiter front ≡ 0
  pub opening : reopens rest ≡ true

-- the first unit from `at` on, of n frames that are left: what leads it lies from a to b, its OBUs from c to d
pub record FirstUnit (s : List ℕ) (at n a b c d : ℕ) : Type 0 where
  pub all : List Obu
  pub range : Range s at (length s) all
  pub leading : List Obu
  pub lead-range : Range s a b leading
  pub inner : List Obu
  pub inner-range : Range s c d inner
  pub rest : List Obu
  pub behind : Range s d (length s) rest
  pub first : units all ≡ (leading ++ others inner) ∷ units rest
  pub left : count is_frame rest ≡ n - 1
  pub lead_after : at ≤ a
  pub lead-within : b ≤ d
  pub after : at ≤ c
  pub some : at < d

-- ---- one unit: what leads it lies from a to b, its OBUs from c to d

-- it can be measured
pub record UnitRanges (s : List ℕ) (a b c d : ℕ) : Type 0 where
  pub short : length s ≤ limit
  pub leading : List Obu
  pub lead-range : Range s a b leading
  pub inner : List Obu
  pub inner-range : Range s c d inner

abbrev pub UnitLength : List ℕ → (a b c d : ℕ) → ℕ → Type 0
UnitLength s a b c d r = (ls os : List Obu) → Range s a b ls → Range s c d os → r ≡ length (unit_bytes (ls ++ others os))

-- it has room in e at `to`
pub record UnitRoom (s : List ℕ) (a b c d : ℕ) (e : List ℕ) (to : ℕ) : Type 0 where
  pub leading : List Obu
  pub lead-range : Range s a b leading
  pub inner : List Obu
  pub inner-range : Range s c d inner
  pub room : to + length (unit_bytes (leading ++ others inner)) ≤ length e

abbrev pub UnitWrote : List ℕ → (a b c d : ℕ) → List ℕ → ℕ → ℕ → List ℕ → Type 0
UnitWrote s a b c d e to r f = (ls os : List Obu) → Range s a b ls → Range s c d os → Wrote e to (unit_bytes (ls ++ others os)) r f

-- ---- all units

-- the stream can be measured, and has n frames
pub record StreamFrames (s : List ℕ) (n : ℕ) : Type 0 where
  pub short : length s ≤ limit
  pub all : List Obu
  pub reads : obus s ≡ accepted all
  pub frames : count is_frame all ≡ n

-- and its units have room
pub record StreamRoom (s : List ℕ) (n : ℕ) (d e : List ℕ) : Type 0 where
  pub stream : StreamFrames s n
  pub small : length (unit_bytes (flat (units stream.all))) ≤ limit
  pub room : length (unit_bytes (flat (units stream.all))) ≤ length d
  pub slots : length (units stream.all) ≤ length e

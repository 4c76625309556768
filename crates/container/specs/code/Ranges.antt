-- OBUs from one position of lent bytes to another, and what is written of them.
use Rattle.std.specs.Prelude.{ℕ, ◌+◌, ◌≤◌, ◌<◌, ◌≡◌, List, [], ◌∷◌, Bool, cond as pick, not, ◌||◌, length, drop}
use Rattle.bitio.specs.Parse.{item}
use Rattle.bitio.specs.Lent.{Wrote}
use Rattle.obu.specs.Obu.{Obu, head_obu, obu_bytes, unit_bytes}
use Rattle.obu.specs.Unit.{is_type}
use Rattle.obu.specs.declared.unit.Kind.TheVariants.{TemporalDelimiter}
use Rattle.bitio.specs.Limits.{limit}
use Rattle.container.specs.Stream.{others}

-- the OBU o stands at a, the next one at m
pub record Step (s : List ℕ) (a : ℕ) (o : Obu) (m : ℕ) : Type 0 where
  pub after : a < m
  pub within : m ≤ length s
  pub head : head_obu (drop a s) ≡ item o (drop m s)

-- the OBUs from a on, read through to b
pub data Range (s : List ℕ) : ℕ → ℕ → List Obu → Type 0 where
  here : {a : ℕ} → a ≤ length s → Range s a a []
  more : {a m b : ℕ} {o : Obu} {os : List Obu} → Step s a o m → Range s m b os → Range s a b (o ∷ os)

-- whether an OBU of type t is kept: any, or one that is no delimiter
unfoldable pub is_kept : Bool → ℕ → Bool
is_kept keep t = keep || not (is_type TemporalDelimiter t)

-- what is written of one
unfoldable pub kept_one : Bool → Obu → List ℕ
kept_one keep o = pick (is_kept keep o.type) (obu_bytes o) []

-- all of them, or those that are no delimiters
abbrev pub kept : Bool → List Obu → List Obu
kept keep os = pick keep os (others os)

abbrev pub kept_bytes : Bool → List Obu → List ℕ
kept_bytes keep os = unit_bytes (kept keep os)

-- OBUs that can be measured
pub record Ranged (s : List ℕ) (a b : ℕ) : Type 0 where
  pub short : length s ≤ limit
  pub os : List Obu
  pub range : Range s a b os

-- how many bytes they have, written
abbrev pub Measured : List ℕ → ℕ → ℕ → Bool → ℕ → Type 0
Measured s a b keep r = (os : List Obu) → Range s a b os → r ≡ length (kept_bytes keep os)

-- OBUs that have room in d at `to`
pub record Roomy (s : List ℕ) (a b : ℕ) (keep : Bool) (d : List ℕ) (to : ℕ) : Type 0 where
  pub os : List Obu
  pub range : Range s a b os
  pub room : to + length (kept_bytes keep os) ≤ length d

-- and what was written of them
abbrev pub WroteKept : List ℕ → ℕ → ℕ → Bool → List ℕ → ℕ → ℕ → List ℕ → Type 0
WroteKept s a b keep d to r e = (os : List Obu) → Range s a b os → Wrote d to (kept_bytes keep os) r e

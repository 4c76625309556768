-- Packets joined, and units made canonical (01, 'Units from a stream').
use Rattle.std.specs.Prelude.{ℕ, List, [], ◌∷◌, ◌++◌, cond as pick, length}
use Rattle.bitio.specs.Parse.{Answer, refused, accepted}
use Rattle.obu.specs.Obu.{Obu, obus, unit_bytes}
use Rattle.obu.specs.Unit.{stray_in}
use Rattle.container.specs.Stream.{has_frame, others, join}
use Rattle.container.specs.Limits.{Room, fit_bytes}
use Rattle.bitio.specs.Limits.{led34}

pub record Packet : Type 0 where
  pub time : ℕ
  pub bytes : List ℕ

-- what a packet makes of the OBUs that wait: a packet that goes out, or more that waits
pub data Met : Type 0 where
  out : Packet → Met
  wait : List Obu → Met

-- both go out with the time of q; where q does not parse, its bytes as they are, behind what waits
abbrev pub meet : List Obu → Packet → Answer (List Obu) → Met
meet w q (refused k) = out (record { time = q.time; bytes = unit_bytes w ++ q.bytes })
meet w q (accepted os) = pick (has_frame os) (out (record { time = q.time; bytes = unit_bytes (join w os) })) (wait (w ++ os))

-- 01: a frameless tail takes the last packet's time; behind one that does not parse it is appended
abbrev pub tailed : Packet → List Obu → Answer (List Obu) → Packet
tailed p w (refused k) = record { time = p.time; bytes = p.bytes ++ unit_bytes w }
tailed p w (accepted os) = record { time = p.time; bytes = unit_bytes (join os w) }

abbrev pub on : {A : Type 0} → Met → (Packet → A) → (List Obu → A) → A
on (out r) f g = f r
on (wait w) f g = g w

-- p is the last packet that went out, w what waits behind it
unfoldable pub behind_p : Packet → List Obu → List Packet → List Packet
behind_p p w [] = tailed p w (obus p.bytes) ∷ []
behind_p p w (q ∷ qs) = on (meet w q (obus q.bytes)) (λ r. p ∷ behind_p r [] qs) (λ v. behind_p p v qs)

abbrev pub first_time : List Obu → ℕ → ℕ → ℕ
first_time [] t u = u
first_time (o ∷ w) t u = t

-- none has gone out yet. 01: frameless packets alone have the time t of the first with bytes; empty packets vanish
unfoldable pub alone : ℕ → List Obu → List Packet → List Packet
alone t [] [] = []
alone t (o ∷ w) [] = record { time = t; bytes = unit_bytes (o ∷ w) } ∷ []
alone t w (q ∷ qs) = on (meet w q (obus q.bytes)) (λ r. behind_p r [] qs) (λ v. alone (first_time w t q.time) v qs)

unfoldable pub merge_packets : List Packet → List Packet
merge_packets qs = alone 0 [] qs

-- a unit without the delimiters that are not first
abbrev pub cleaned : List Obu → List Obu
cleaned [] = []
cleaned (o ∷ os) = o ∷ others os

-- a unit with none of those, or one that does not parse, is left as it is
abbrev pub canonical_of : List ℕ → Answer (List Obu) → List ℕ
canonical_of u (refused k) = u
canonical_of u (accepted os) = pick (stray_in os) (unit_bytes (cleaned os)) u

unfoldable pub canonical : List ℕ → List ℕ
canonical u = canonical_of u (obus u)

-- 01, canonicalize_tu, with its limits
unfoldable pub canonical_at : Room → List ℕ → Answer (List ℕ)
canonical_at room u = led34 (length u) (fit_bytes room (accepted (canonical u)))

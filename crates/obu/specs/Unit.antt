-- Questions on the OBUs of a unit.
use Rattle.std.specs.Prelude.{ℕ, suc, ◌-◌, List, [], ◌∷◌, Bool, true, false, cond as pick, ◌||◌, length, eqb}
use Rattle.std.proofs.Math.Option.{Option, none, some, or_else}
use Rattle.std.specs.Prelude.{Option as Optional, Some, None, Result, Ok, Err}
use Rattle.bitio.specs.Parse.{Answer, refused, accepted, Head, stop, item, many}
use Rattle.obu.specs.Obu.{Obu, head_obu, obus}
use Rattle.obu.specs.Place.{extension_says, part}
use Rattle.obu.specs.Write.{obu as obu_of}
use Rattle.obu.specs.declared.reader.Obu.{Obu as Found}
use Rattle.obu.specs.declared.unit.Kind.{Kind}
use Rattle.obu.specs.declared.unit.Kind.TheVariants.{Any, SequenceHeader, TemporalDelimiter, Frame}
use Rattle.bitio.specs.Refusal.{number}
use Rattle.bitio.specs.declared.refusal.Refusal.{Refusal}

-- AV1 6.2.2: sequence header 1, temporal delimiter 2; a frame is a frame header 3 or a frame 6
unfoldable pub is_type : Kind → ℕ → Bool
is_type Any t = true
is_type SequenceHeader t = eqb t 1
is_type TemporalDelimiter t = eqb t 2
is_type Frame t = eqb t 3 || eqb t 6

abbrev pub is_kind : Kind → Obu → Bool
is_kind k o = is_type k o.type

abbrev pub is_sequence : Obu → Bool
is_sequence o = is_kind SequenceHeader o

abbrev pub is_delimiter : Obu → Bool
is_delimiter o = is_kind TemporalDelimiter o

-- a frame header or a frame
abbrev pub is_frame : Obu → Bool
is_frame o = is_kind Frame o

-- how many, of OBUs or anything else, p holds of
unfoldable pub count : {A : Type 0} → (A → Bool) → List A → ℕ
count p [] = 0
count p (x ∷ xs) = pick (p x) (suc (count p xs)) (count p xs)

-- whether p holds of one
unfoldable pub has : (Obu → Bool) → List Obu → Bool
has p [] = false
has p (o ∷ os) = p o || has p os

-- the payload of the first that p holds of, or none
unfoldable pub first_payload : (Obu → Bool) → List Obu → List ℕ
first_payload p [] = []
first_payload p (o ∷ os) = pick (p o) o.payload (first_payload p os)

-- the payload of the last that p holds of, or none
unfoldable pub last_payload : (Obu → Bool) → List Obu → List ℕ
last_payload p [] = []
last_payload p (o ∷ os) = pick (has p os) (last_payload p os) (pick (p o) o.payload [])

-- an OBU of a unit: its payload lies from start to end
pub record Located : Type 0 where
  pub obu : Obu
  pub start : ℕ
  pub end : ℕ

-- the OBU at the head, in a unit of n bytes
abbrev pub located : ℕ → Head Obu → Head Located
located n (stop k) = stop k
located n (item o r) = item (record { obu = o; start = n - length r - length o.payload; end = n - length r }) r

unfoldable pub located_obus : List ℕ → Answer (List Located)
located_obus s = many (λ l. located (length s) (head_obu l)) s

-- the first that p holds of, or the last
unfoldable pub sought : {A : Type 0} → Bool → (A → Bool) → List A → Option A
sought last p [] = none
sought last p (a ∷ l) =
    pick last (or_else (sought last p l) (pick (p a) (some a) none)) (or_else (pick (p a) (some a) none) (sought last p l))

-- what the code found in s, or 01's number
abbrev pub sought_says : List ℕ → Result (Optional Found) Refusal → Answer (Option Located)
sought_says s (Ok (Some o)) =
    accepted (some (record { obu = obu_of o.obu_type (extension_says o.extension) (part s o.start o.end); start = o.start; end = o.end }))
sought_says s (Ok None) = accepted none
sought_says s (Err e) = refused (number e)

-- the payload of what was found, or none
abbrev pub payload_found : Answer (Option Located) → List ℕ
payload_found (refused k) = []
payload_found (accepted none) = []
payload_found (accepted (some l)) = l.obu.payload

-- whether a delimiter stands anywhere but first
abbrev pub stray_in : List Obu → Bool
stray_in [] = false
stray_in (o ∷ os) = has is_delimiter os

-- of a unit that is refused there is nothing
abbrev pub of_unit : {A : Type 0} → A → (List Obu → A) → Answer (List Obu) → A
of_unit d f (refused k) = d
of_unit d f (accepted os) = f os

-- the payload of a unit's first sequence header, or none
abbrev pub sequence_payload : List ℕ → List ℕ
sequence_payload u = of_unit [] (first_payload is_sequence) (obus u)

-- Laws of the list's sequence header: the first of a key, and a payload read.
use Prim.Native.Nat.{ℕ}
use mathlib.Core.Path.{◌≡◌, refl, ap, ◌∙◌}
use mathlib.Core.List.{List, [], ◌∷◌}
use mathlib.Core.Bool.{Bool, true, false, cond as pick}
use mathlib.Core.Option.{Option, none, some, map, or_else}
use Rattle.bitio.specs.Parse.{Answer, refused, accepted, answer, and_next}
use Rattle.obu.specs.Obu.{Obu, obus}
use Rattle.obu.specs.Unit.{located_obus, sought, sought_says, is_sequence}
use Rattle.std.specs.Prelude.{Option as Optional, Result}
use Rattle.obu.specs.declared.reader.Obu.{Obu as Found}
use Rattle.bitio.specs.declared.refusal.Refusal.{Refusal}
use Rattle.obu.proofs.UnitLaws.{obu_at, sought-obus}
use Rattle.header.specs.Sequence.{Sequence, in_array, sequence_in}
use Rattle.header.specs.Support.{supported_sequence}
use Rattle.header.proofs.SupportLaws.{supported-read}
use Rattle.frame.proofs.FrameFromLaws.{read_whole}
use Rattle.pictures.specs.Prepare.{first_of}
use Rattle.pictures.specs.Flat.{first_sequence}

-- ---- the first OBU that passes, as it is sought

abbrev pub or_refused : ℕ → Option Obu → Answer Obu
or_refused n none = refused n
or_refused n (some o) = accepted o

first-sought : (n : ℕ) (pass : Obu → Bool) (os : List Obu) → or_refused n (sought false pass os) ≡ first_of n pass os
unfolding first_of sought or_else
first-sought n pass [] = refl
first-sought n pass (o ∷ os) = go (pass o) (first-sought n pass os)
  where
    go : (t : Bool) → or_refused n (sought false pass os) ≡ first_of n pass os
        → or_refused n (or_else (pick t (some o) none) (sought false pass os)) ≡ pick t (accepted o) (first_of n pass os)
    go true e = refl
    go false e = e

-- r: what was found
pub first_found : (u : List ℕ) (r : Result (Optional Found) Refusal) → sought_says u r ≡ answer (sought false (λ o. is_sequence o.obu)) (located_obus u)
    → and_next (answer (map obu_at) (sought_says u r)) (or_refused 26) ≡ first_sequence u
unfolding and_next
first_found u r e =
    ap (λ y. and_next (answer (map obu_at) y) (or_refused 26)) e
    ∙ ap (λ y. and_next y (or_refused 26)) (sought-obus false is_sequence u)
    ∙ go (obus u)
  where
    go : (x : Answer (List Obu)) → and_next (answer (sought false is_sequence) x) (or_refused 26) ≡ and_next x (λ os. first_of 26 is_sequence os)
    go (refused k) = refl
    go (accepted os) = first-sought 26 is_sequence os

-- ---- a sequence payload read

-- a header that was read, and its operating points
pub read-says : (s : List ℕ) → answer sequence_in (answer in_array (supported_sequence s)) ≡ supported_sequence s
read-says s = go (supported_sequence s) refl
  where
    go : (x : Answer Sequence) → supported_sequence s ≡ x → answer sequence_in (answer in_array x) ≡ x
    go (refused k) e = refl
    go (accepted q) e = ap (λ y. accepted y) (read_whole s q (supported-read s q e))

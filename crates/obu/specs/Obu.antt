-- OBUs, read and written (AV1 5.3).
use Rattle.std.specs.Prelude.{ℕ, ◌+◌, ◌*◌, ◌/◌, ◌%◌, Bool, true, cond as pick, ◌||◌, ◌≡◌, leb, eqb}
use mathlib.Core.List.{List, [], ◌∷◌, ◌++◌, flat_map}
use Rattle.std.proofs.Math.Option.{Option, none, some}
use Rattle.bitio.specs.Parse.{Answer, accepted, Head, stop, item, within, many}
use Rattle.bitio.specs.Leb.{sized, framed}

pub record Obu : Type 0 where
  pub type : ℕ
  pub ext : Option ℕ
  pub payload : List ℕ

-- AV1 5.3.2 obu_header, from the top: the forbidden bit, four bits of type, a flag for the extension (4) and one for the
-- size (2), a reserved bit, which is not looked at and not kept.
abbrev pub flag : ℕ → ℕ → Bool
flag w h = eqb (h / w % 2) 1

abbrev pub obu_type : ℕ → ℕ
obu_type h = h / 8 % 16

-- 01: the types 0 to 8 and 15. The reserved types 9 to 14, which AV1 6.2.2 has decoders ignore, are refused, as in the Rust.
unfoldable pub passes : ℕ → Bool
passes t = leb t 8 || eqb t 15

abbrev pub obu_with : ℕ → Option ℕ → List ℕ → Obu
obu_with h e p = record { type = obu_type h; ext = e; payload = p }

-- AV1 5.3.1: obu_size bytes; without a size, the rest
abbrev pub sized_body : ℕ → Option ℕ → List ℕ → Head Obu
sized_body h e s = within (pick (flag 2 h) (sized 4 5 s) (item s [])) (λ p. accepted (obu_with h e p))

-- AV1 5.3.3: the extension byte
abbrev pub extended : ℕ → List ℕ → Head Obu
extended h [] = stop 3
extended h (e ∷ s) = sized_body h (some e) s

-- AV1 5.3.1: the OBU at the head, where a type passes; 01's refusals 1 to 5 in this order (an empty list is never asked for)
unfoldable pub head_obu_of : (ℕ → Bool) → List ℕ → Head Obu
head_obu_of pass [] = stop 12
head_obu_of pass (h ∷ s) =
    pick (flag 128 h) (stop 1) (pick (pass (obu_type h)) (pick (flag 4 h) (extended h s) (sized_body h none s)) (stop 2))

abbrev pub head_obu : List ℕ → Head Obu
head_obu s = head_obu_of passes s

-- the OBUs of a stream or of a unit, or the first refusal
unfoldable pub obus_of : (ℕ → Bool) → List ℕ → Answer (List Obu)
obus_of pass s = many (head_obu_of pass) s

abbrev pub obus : List ℕ → Answer (List Obu)
obus s = obus_of passes s

-- AV1's own reading: every type passes
abbrev pub spec_obus : List ℕ → Answer (List Obu)
spec_obus s = obus_of (λ t. true) s

abbrev pub ext_flag : Option ℕ → ℕ
ext_flag none = 0
ext_flag (some e) = 4

abbrev pub ext_bytes : Option ℕ → List ℕ
ext_bytes none = []
ext_bytes (some e) = e ∷ []

-- header and extension, f being 2 if a size follows
abbrev pub header : ℕ → ℕ → Option ℕ → List ℕ
header f t e = (8 * t + ext_flag e + f) ∷ ext_bytes e

-- 01's written form: with its size, that in as few bytes as leb128 has for it, and the reserved bit 0
unfoldable pub obu_bytes : Obu → List ℕ
obu_bytes o = header 2 o.type o.ext ++ framed o.payload

unfoldable pub unit_bytes : List Obu → List ℕ
unit_bytes os = flat_map obu_bytes os

-- 01: a unit in written form is the bytes of its OBUs
pub record Written (u : List ℕ) (os : List Obu) : Type 0 where
  pub reads : obus u ≡ accepted os
  pub bytes : unit_bytes os ≡ u

-- Units from and to Annex B (01, 'Units from and to Annex B').
use Rattle.std.specs.Prelude.{ℕ, Bool, true, ◌&&◌, cond as pick, length, eqb}
use mathlib.Core.List.{List, [], ◌∷◌, ◌++◌, map, flat_map}
use Rattle.std.proofs.Math.Option.{Option, none, some}
use Rattle.bitio.specs.Parse.{Answer, refused, accepted, answer, Head, within, many}
use Rattle.bitio.specs.Leb.{Number, no_leb, leb_then, read_leb, sized, framed}
use Rattle.obu.specs.Obu.{Obu, flag, obu_type, passes, obu_with, header, obus, unit_bytes}
use Rattle.container.specs.Stream.{flat}

-- ---- reading; `honoured` says whether the size bit of an inner OBU is looked at: here it is (02 §1), in the Rust it is not

-- an OBU with its size, which must count the bytes behind it. 4: no such number, 40: another count
abbrev pub with_size : ℕ → Option ℕ → Number → Answer Obu
with_size h e no_leb = refused 4
with_size h e (leb_then n p) = pick (eqb n (length p)) (accepted (obu_with h e p)) (refused 40)

-- what follows header and extension: the size, if there is one, and the payload
abbrev pub typed : Bool → ℕ → Option ℕ → List ℕ → Answer Obu
typed honoured h e p =
    pick (passes (obu_type h)) (pick (honoured && flag 2 h) (with_size h e (read_leb p)) (accepted (obu_with h e p))) (refused 2)

abbrev pub extended_b : Bool → ℕ → List ℕ → Answer Obu
extended_b honoured h [] = refused 3
extended_b honoured h (e ∷ p) = typed honoured h (some e) p

-- an OBU that fills its bytes; refusals 12, 1, 3, 2, and then those of its size
unfoldable pub inner_obu_of : Bool → List ℕ → Answer Obu
inner_obu_of honoured [] = refused 12
inner_obu_of honoured (h ∷ s) = pick (flag 128 h) (refused 1) (pick (flag 4 h) (extended_b honoured h s) (typed honoured h none s))

-- AV1 Annex B: obu_length, frame_unit_size, temporal_unit_size, each followed by so many bytes
unfoldable pub length_obu_of : Bool → List ℕ → Head Obu
length_obu_of honoured s = within (sized 10 11 s) (inner_obu_of honoured)

unfoldable pub frame_unit_of : Bool → List ℕ → Head (List Obu)
frame_unit_of honoured s = within (sized 8 9 s) (many (length_obu_of honoured))

unfoldable pub temporal_unit_of : Bool → List ℕ → Head (List Obu)
temporal_unit_of honoured s = within (sized 6 7 s) (λ p. answer flat (many (frame_unit_of honoured) p))

-- 01: the units in written form, or the first refusal; 13 for empty input
unfoldable pub annexb_units_of : Bool → List ℕ → Answer (List (List ℕ))
annexb_units_of honoured [] = refused 13
annexb_units_of honoured (b ∷ s) = answer (map unit_bytes) (many (temporal_unit_of honoured) (b ∷ s))

abbrev pub inner_obu : List ℕ → Answer Obu
inner_obu = inner_obu_of true

abbrev pub length_obu : List ℕ → Head Obu
length_obu = length_obu_of true

abbrev pub frame_unit : List ℕ → Head (List Obu)
frame_unit = frame_unit_of true

abbrev pub temporal_unit : List ℕ → Head (List Obu)
temporal_unit = temporal_unit_of true

abbrev pub annexb_units : List ℕ → Answer (List (List ℕ))
annexb_units = annexb_units_of true

-- ---- writing

abbrev pub inner_bytes : Obu → List ℕ
inner_bytes o = framed (header 0 o.type o.ext ++ o.payload)

-- a unit as one frame unit of OBUs without sizes
unfoldable pub annexb_unit : List Obu → List ℕ
annexb_unit os = framed (framed (flat_map inner_bytes os))

abbrev pub wrote : Answer (List Obu) → Answer (List ℕ) → Answer (List ℕ)
wrote (refused k) r = refused k
wrote (accepted os) r = answer (λ bs. annexb_unit os ++ bs) r

-- the units' bytes, or the first refusal of an OBU (1 to 5)
unfoldable pub annexb_bytes : List (List ℕ) → Answer (List ℕ)
annexb_bytes [] = accepted []
annexb_bytes (u ∷ us) = wrote (obus u) (annexb_bytes us)

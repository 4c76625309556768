-- Where no inner OBU has its size bit set, honouring it changes nothing.
use Prim.Native.Nat.{ℕ, zero, suc}
use mathlib.Core.Path.{◌≡◌, refl, ap}
use mathlib.Core.List.{List, [], ◌∷◌, map}
use mathlib.Core.Bool.{true, false}
use Rattle.bitio.specs.Parse.{Answer, refused, accepted, answer, Head, stop, item, before, within, onto, and_more, many, many_f}
use Rattle.bitio.specs.Every.{Every, nothing, also}
use Rattle.bitio.specs.Leb.{sized}
use Rattle.obu.specs.Obu.{unit_bytes}
use Rattle.container.specs.Stream.{flat}
use Rattle.container.specs.AnnexB.{inner_obu_of, length_obu_of, frame_unit_of, temporal_unit_of, annexb_units_of}
use Rattle.container.specs.SizeBit.{and_on, reached_f, reached, Clear, ClearFrame, ClearUnit, ClearUnits}

-- ---- two ways to read further what stands at each head

module _ {B : Type 0} (h : List ℕ → Head (List ℕ)) (f g : List ℕ → Answer B) where
  abbrev Same : List ℕ → Type 0
  Same p = f p ≡ g p

  same_rest : (r : List ℕ) (x : Answer B) (p q : List ℕ → Answer (List B)) → p r ≡ q r → and_more (before r x) p ≡ and_more (before r x) q
  same_rest r (refused k) p q e = refl
  same_rest r (accepted b) p q e = ap (onto b) e

  same_more : (x : Head (List ℕ)) (t : List ℕ → List (List ℕ)) (p q : List ℕ → Answer (List B)) → ((r : List ℕ) → Every Same (t r) → p r ≡ q r)
      → Every Same (and_on x t) → and_more (within x f) p ≡ and_more (within x g) q
  same_more (stop k) t p q rest e = refl
  same_more (item a r) t p q rest (also w e) = rw w (same_rest r (g a) p q (rest r e))

  same-fuel : (n : ℕ) (s : List ℕ) → Every Same (reached_f h n s) → many_f (λ l. within (h l) f) n s ≡ many_f (λ l. within (h l) g) n s
  unfolding many_f reached_f
  same-fuel zero s e = refl
  same-fuel (suc n) [] e = refl
  same-fuel (suc n) (b ∷ s) e =
      same_more (h (b ∷ s)) (reached_f h n) (many_f (λ l. within (h l) f) n) (many_f (λ l. within (h l) g) n) (same-fuel n) e

  -- two ways that agree on all that is reached read the same
  many-same : (s : List ℕ) → Every Same (reached h s) → many (λ l. within (h l) f) s ≡ many (λ l. within (h l) g) s
  unfolding many reached
  many-same s e = same-fuel _ s e

every-imply : {A : Type 0} {P Q : A → Type 0} → ((a : A) → P a → Q a) → {l : List A} → Every P l → Every Q l
every-imply f nothing = nothing
every-imply f (also {a} p e) = also (f a p) (every-imply f e)

-- ---- an OBU, a frame unit, a unit, all units

inner-same : (s : List ℕ) → Clear s → inner_obu_of true s ≡ inner_obu_of false s
unfolding inner_obu_of
inner-same [] c = refl
inner-same (h ∷ []) c = rw c
inner-same (h ∷ e ∷ s) c = rw c

frame_same : (s : List ℕ) → ClearFrame s → many (length_obu_of true) s ≡ many (length_obu_of false) s
unfolding length_obu_of
frame_same s c = many-same (sized 10 11) (inner_obu_of true) (inner_obu_of false) s (every-imply inner-same c)

unit-same : (s : List ℕ) → ClearUnit s → answer flat (many (frame_unit_of true) s) ≡ answer flat (many (frame_unit_of false) s)
unfolding frame_unit_of
unit-same s c = ap (answer flat) (many-same (sized 8 9) (many (length_obu_of true)) (many (length_obu_of false)) s (every-imply frame_same c))

-- docs/DIFFERENCES.md claims it: both readings are the same where no OBU to which the lengths lead has the bit
pub size-bit-clear : (s : List ℕ) → ClearUnits s → annexb_units_of true s ≡ annexb_units_of false s
unfolding annexb_units_of temporal_unit_of
size-bit-clear [] c = refl
size-bit-clear (b ∷ s) c =
    ap (answer (map unit_bytes))
    (many-same (sized 6 7) (λ p. answer flat (many (frame_unit_of true) p)) (λ p. answer flat (many (frame_unit_of false) p)) (b ∷ s) (every-imply unit-same c))

-- Laws of the part of a list from one index to another.
use Prim.Native.Nat.{ℕ, zero, suc, ◌+◌, ◌≤◌, ◌<◌}
use native.Mathlib.Omega.{arith}
use native.Mathlib.Numerals.{add-one}
use mathlib.Core.Path.{◌≡◌, refl, sym, ap, ◌∙◌}
use mathlib.Core.List.{List, [], ◌∷◌, ◌++◌, map}
use lib.ListN.{length, take, drop, get_or, take-append-drop}
use lib.Seq.{slice, drop-cons, drop-append-le, length-take-le, take-suc, take-length, take-take, get_or-take}
use Rattle.bitio.specs.Every.{Every}
use Rattle.bitio.specs.Every.Every.{nothing, also}
use Rattle.bitio.proofs.ParseLaws.{map-take}
use Rattle.bitio.proofs.EveryLaws.{every_take, every_drop}

module _ {A : Type 0} where
  -- what is left from a on: up to b, and from b on
  pub slice-split : (a b : ℕ) (l : List A) → a ≤ b → b ≤ length l → drop a l ≡ slice a b l ++ drop b l
  slice-split a b l h k =
      ap (drop a) (sym (take-append-drop b l)) ∙ drop-append-le a (take b l) (drop b l) (omega (arith, length-take-le b l k))

  -- one element more
  pub slice-more : (a i : ℕ) (l : List A) (d : A) → a ≤ i → i < length l → slice a (i + 1) l ≡ slice a i l ++ (get_or l i d ∷ [])
  slice-more a i l d h k =
      rw (add-one i, take-suc l i d k) (drop-append-le a (take i l) (get_or l i d ∷ []) (omega (arith, length-take-le i l (omega arith))))

  -- all from a on
  pub slice-rest : (a : ℕ) (l : List A) → slice a (length l) l ≡ drop a l
  slice-rest a l = ap (drop a) (take-length l)

  -- an element of the part
  pub slice_at : (a i b : ℕ) (l : List A) (d : A) → a ≤ i → i < b → b ≤ length l → slice a b l ≡ slice a i l ++ (get_or l i d ∷ slice (i + 1) b l)
  slice_at a i b l d h k m = parts (take b l) (length-take-le b l m) ∙ same
    where
      parts : (x : List A) → length x ≡ b → drop a x ≡ slice a i x ++ (get_or x i d ∷ drop (i + 1) x)
      parts x e = slice-split a i x h (omega arith) ∙ ap (λ r. slice a i x ++ r) (drop-cons x i d (omega arith) ∙ rw (add-one i))

      same : slice a i (take b l) ++ (get_or (take b l) i d ∷ drop (i + 1) (take b l)) ≡ slice a i l ++ (get_or l i d ∷ slice (i + 1) b l)
      same = rw (take-take i b l (omega arith), get_or-take b l i d k)

  -- two parts, one behind the other
  pub slice-join : (a m b : ℕ) (l : List A) → a ≤ m → m ≤ b → b ≤ length l → slice a b l ≡ slice a m l ++ slice m b l
  slice-join a m b l h k n =
      slice-split a m (take b l) h (omega (arith, length-take-le b l n)) ∙ rw (take-take m b l k)

  map-drop : {B : Type 0} (f : A → B) (n : ℕ) (l : List A) → map f (drop n l) ≡ drop n (map f l)
  map-drop f zero l = refl
  map-drop f (suc n) [] = refl
  map-drop f (suc n) (x ∷ l) = map-drop f n l

  pub map-slice : {B : Type 0} (f : A → B) (a b : ℕ) (l : List A) → map f (slice a b l) ≡ slice a b (map f l)
  map-slice f a b l = map-drop f a (take b l) ∙ ap (drop a) (map-take f b l)

  module _ (P : A → Type 0) where
    pub every_map : {B : Type 0} (f : B → A) (l : List B) → Every P (map f l) → Every (λ x. P (f x)) l
    every_map f [] e = nothing
    every_map f (x ∷ l) (also p ps) = also p (every_map f l ps)

    pub every-slice : (a b : ℕ) (l : List A) → Every P l → Every P (slice a b l)
    every-slice a b l e = every_drop P a (take b l) (every_take P b l e)

    pub every-at : (i : ℕ) (l : List A) (d : A) → i < length l → Every P l → P (get_or l i d)
    every-at zero [] d h e = absurd (omega arith)
    every-at (suc i) [] d h e = absurd (omega arith)
    every-at zero (x ∷ l) d h (also p ps) = p
    every-at (suc i) (x ∷ l) d h (also p ps) = every-at i l d (omega arith) ps

    -- the element between two lists
    pub every-seam : (l : List A) (x : A) (r : List A) → Every P (l ++ (x ∷ r)) → P x
    every-seam [] x r (also p ps) = p
    every-seam (y ∷ l) x r (also p ps) = every-seam l x r ps

    -- an element, or the one that stands for none
    pub every-or : (i : ℕ) (l : List A) (d : A) → P d → Every P l → P (get_or l i d)
    every-or zero [] d q e = q
    every-or (suc i) [] d q e = q
    every-or zero (x ∷ l) d q (also p ps) = p
    every-or (suc i) (x ∷ l) d q (also p ps) = every-or i l d q ps

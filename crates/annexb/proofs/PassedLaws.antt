-- Laws of one thing after another in a list: what was read so far, and what is left.
use Prim.Native.Nat.{ℕ, ◌<◌}
use native.Mathlib.Omega.{arith}
use mathlib.Core.Path.{◌≡◌, refl, sym, ap, ◌∙◌}
use mathlib.Core.List.{List, [], ◌∷◌, ◌++◌, append_assoc, append-nil}
use lib.ListN.{length}
use Rattle.bitio.specs.Parse.{Answer, refused, accepted, answer, Head, stop, item, onto, many}
use Rattle.bitio.proofs.ParseLaws.{Shrinks, many-item, many-stop, many-nil}

abbrev pub ahead : {A : Type 0} → List A → Answer (List A) → Answer (List A)
ahead front x = answer (λ l. front ++ l) x

module _ {A : Type 0} where
  pub ahead-nil : (x : Answer (List A)) → x ≡ ahead [] x
  ahead-nil (refused k) = refl
  ahead-nil (accepted l) = refl

  pub ahead-onto : (front : List A) (a : A) (x : Answer (List A)) → ahead front (onto a x) ≡ ahead (front ++ (a ∷ [])) x
  ahead-onto front a (refused k) = refl
  ahead-onto front a (accepted l) = ap accepted (sym (append_assoc front (a ∷ []) l))

  -- what is accepted begins with the front
  pub ahead-split : (front : List A) (x : Answer (List A)) (all : List A) → ahead front x ≡ accepted all → (l : List A) × (x ≡ accepted l) × (all ≡ front ++ l)
  ahead-split front (refused k) all e = let z : ◌≡◌ {A = ℕ} 0 1 = cc in absurd (omega arith)
  ahead-split front (accepted l) all e = (l, refl, let q : front ++ l ≡ all = cc in sym q)

-- the things of s are those of the front, and then those of r
pub record Passed {A : Type 0} (h : List ℕ → Head A) (s r : List ℕ) (front : List A) : Type 0 where
  pub whole : many h s ≡ ahead front (many h r)

module _ {A : Type 0} (h : List ℕ → Head A) (shrinks : Shrinks h) (s : List ℕ) where
  pub passed_start : Passed h s s []
  passed_start = record { whole = ahead-nil (many h s) }

  module _ {r : List ℕ} {front : List A} (w : Passed h s r front) where
    pub passed-next : {x : A} {t : List ℕ} → h r ≡ item x t → Passed h s t (front ++ (x ∷ []))
    passed-next {x} {t} q = record { whole = w.whole ∙ ap (ahead front) (many-item h shrinks r x t q) ∙ ahead-onto front x (many h t) }

    pub passed-end : length r ≡ 0 → many h s ≡ accepted front
    passed-end l = w.whole ∙ none r l
      where
        none : (r : List ℕ) → length r ≡ 0 → ahead front (many h r) ≡ accepted front
        none [] l = ap (ahead front) (many-nil h) ∙ ap accepted (append-nil front)
        none (b ∷ r) l = absurd (omega arith)

    pub passed-stop : 0 < length r → (k : ℕ) → h r ≡ stop k → many h s ≡ refused k
    passed-stop l k q = w.whole ∙ ap (ahead front) (many-stop h shrinks r k l q)

    -- where all is accepted, nothing is refused
    pub passed-no-stop : 0 < length r → (all : List A) → many h s ≡ accepted all → (k : ℕ) → h r ≡ stop k → ⊥
    passed-no-stop l all e k q = let d = passed-stop l k q in let z : ◌≡◌ {A = ℕ} 0 1 = cc in omega arith

    -- and what is read next is a part of it
    pub passed-part : (all : List A) → many h s ≡ accepted all → {x : A} {t : List ℕ} → h r ≡ item x t → (l : List A) × (all ≡ front ++ (x ∷ l))
    passed-part all q {x} {t} i =
        let y = ahead-split front (many h r) all (sym w.whole ∙ q) in
        let z = ahead-split (x ∷ []) (many h t) y.0 (sym (many-item h shrinks r x t i) ∙ y.1) in
        (z.0, y.2 ∙ ap (λ t. front ++ t) z.2)

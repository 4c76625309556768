-- Laws of refreshed slots: a loop that refreshes them, and how many there are.
use Prim.Native.Nat.{ℕ, zero, suc, ◌+◌, ◌/◌, ◌%◌, ◌^◌, ◌≤◌, ◌<◌}
use native.Mathlib.Omega.{arith}
use native.Mathlib.Numerals.{add-one}
use mathlib.Core.Path.{◌≡◌, refl, sym, ap, ◌∙◌}
use mathlib.Core.List.{List, [], ◌∷◌}
use lib.ListN.{length, set}
use native.Mathlib.Nat.{pow-suc}
use Rattle.std.proofs.Math.Nat.{div-div-eq-div-mul}
use borrow.Author.Tests.{ne_eqb}
use Rattle.frame.specs.Refresh.{refresh}

-- the slots where those from i on are still to be refreshed by what is left of the flags
abbrev pub sweep : {A : Type 0} → ℕ → ℕ → A → List A → List A
sweep zero r n l = refresh r n l
sweep (suc i) r n [] = []
sweep (suc i) r n (x ∷ l) = x ∷ sweep i r n l

pub sweep-end : {A : Type 0} (i r : ℕ) (n : A) (l : List A) → length l ≤ i → sweep i r n l ≡ l
unfolding refresh
sweep-end zero r n [] h = refl
sweep-end zero r n (x ∷ l) h = absurd (omega arith)
sweep-end (suc i) r n [] h = refl
sweep-end (suc i) r n (x ∷ l) h = ap (λ y. x ∷ y) (sweep-end i r n l (omega arith))

sweep-set' : {A : Type 0} (i r : ℕ) (n : A) (l : List A) → i < length l → r % 2 ≡ 1 → sweep i r n l ≡ sweep (suc i) (r / 2) n (set l i n)
unfolding refresh
sweep-set' i r n [] h e = absurd (omega arith)
sweep-set' zero r n (x ∷ l) h e = rw e
sweep-set' (suc i) r n (x ∷ l) h e = ap (λ y. x ∷ y) (sweep-set' i r n l (omega arith) e)

sweep-skip' : {A : Type 0} (i r : ℕ) (n : A) (l : List A) → i < length l → (r % 2 ≡ 1 → ⊥) → sweep i r n l ≡ sweep (suc i) (r / 2) n l
unfolding refresh
sweep-skip' i r n [] h e = absurd (omega arith)
sweep-skip' zero r n (x ∷ l) h e = rw (ne_eqb (r % 2) 1 e)
sweep-skip' (suc i) r n (x ∷ l) h e = ap (λ y. x ∷ y) (sweep-skip' i r n l (omega arith) e)

-- one bit further
halved : (f i : ℕ) → f / 2 ^ i / 2 ≡ f / 2 ^ suc i
halved f i = div-div-eq-div-mul f (2 ^ i) 2 ∙ ap (λ d. f / d) (sym (pow-suc 2 i))

-- a slot refreshed, and one passed over
module _ {A : Type 0} (i f : ℕ) (n : A) (l : List A) (h : i < length l) where
  pub sweep-set : f / 2 ^ i % 2 ≡ 1 → sweep (i + 1) (f / 2 ^ (i + 1)) n (set l i n) ≡ sweep i (f / 2 ^ i) n l
  sweep-set e = rw (add-one i) (sym (sweep-set' i (f / 2 ^ i) n l h e ∙ ap (λ r. sweep (suc i) r n (set l i n)) (halved f i)))

  pub sweep-skip : (f / 2 ^ i % 2 ≡ 1 → ⊥) → sweep (i + 1) (f / 2 ^ (i + 1)) n l ≡ sweep i (f / 2 ^ i) n l
  sweep-skip e = rw (add-one i) (sym (sweep-skip' i (f / 2 ^ i) n l h e ∙ ap (λ r. sweep (suc i) r n l) (halved f i)))

-- as many as before
pub length-refresh : {A : Type 0} (flags : ℕ) (new : A) (ss : List A) → length (refresh flags new ss) ≡ length ss
unfolding refresh
length-refresh flags new [] = refl
length-refresh flags new (s ∷ ss) = ap suc (length-refresh (flags / 2) new ss)

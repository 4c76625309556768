-- A loop that reads a syntax again and again: what was read so far, and then the turns that are left, is the whole.
use Prim.Native.Nat.{ℕ, zero, suc, ◌+◌, ◌-◌, ◌<◌, ◌≤◌}
use native.Mathlib.Omega.{arith}
use mathlib.Core.Path.{◌≡◌, refl, sym, ap, ◌∙◌}
use mathlib.Core.List.{List}
use mathlib.Core.Bool.{Bool, true, false, cond as pick}
use Rattle.bitio.specs.Bits.{Reading, fails, reads, and_then}
use Rattle.syntax.specs.Syntax.{Syntax, sub, run}
use Rattle.syntax.specs.Repeat.{repeat, whilst}

-- of n turns from a₀ and p₀ on, those from i on are left, from a and p on
pub record Left {A : Type 0} (f : ℕ → A → Syntax A) (s : List ℕ) (n : ℕ) (a₀ : A) (p₀ i : ℕ) (a : A) (p : ℕ) : Type 0 where
  pub same : run (repeat f i (n - i) a) s p ≡ run (repeat f 0 n a₀) s p₀

module _ {A : Type 0} {f : ℕ → A → Syntax A} {s : List ℕ} {n : ℕ} {a₀ : A} {p₀ i : ℕ} {a : A} {p : ℕ} (l : Left f s n a₀ p₀ i a p) where
  -- the turn i, and those behind it
  pub next : i < n → and_then (run (f i a) s p) (λ b q. run (repeat f (i + 1) (n - (i + 1)) b) s q) ≡ run (repeat f 0 n a₀) s p₀
  unfolding repeat run
  next h =
      let m : suc (n - (i + 1)) ≡ n - i = omega arith in
      ap (λ (k : ℕ). run (repeat f i k a) s p) m ∙ l.same

  pub end : n ≤ i → reads a p ≡ run (repeat f 0 n a₀) s p₀
  unfolding repeat run
  end h =
      let m : 0 ≡ n - i = omega arith in
      ap (λ (k : ℕ). run (repeat f i k a) s p) m ∙ l.same

-- of at most m turns from a₀ and p₀ on, n are left, from a and p on
pub record Still {A : Type 0} (t : A → Bool) (f : A → Syntax A) (s : List ℕ) (m : ℕ) (a₀ : A) (p₀ n : ℕ) (a : A) (p : ℕ) : Type 0 where
  pub same : run (whilst t f n a) s p ≡ run (whilst t f m a₀) s p₀

module _ {A : Type 0} {t : A → Bool} {f : A → Syntax A} {s : List ℕ} {m : ℕ} {a₀ : A} {p₀ n : ℕ} {a : A} {p : ℕ} (l : Still t f s m a₀ p₀ n a p) where
  pub next_still : (k : ℕ) → n ≡ suc k → t a ≡ true → and_then (run (f a) s p) (λ b q. run (whilst t f k b) s q) ≡ run (whilst t f m a₀) s p₀
  unfolding whilst run
  next_still k h y =
      as_is (and_then (run (f a) s p) (λ b q. run (whilst t f k b) s q))
      ∙ ap (λ (z : Bool). and_then (pick z (run (sub (f a) (λ b. whilst t f k b)) s p) (reads a p)) (λ v q. reads v q)) (sym y)
      ∙ ap (λ (j : ℕ). run (whilst t f j a) s p) (sym h)
      ∙ l.same
    where
      as_is : (x : Reading A) → x ≡ and_then x (λ v q. reads v q)
      as_is (fails k) = refl
      as_is (reads v q) = refl

pub end_still : {A : Type 0} {t : A → Bool} {f : A → Syntax A} {s : List ℕ} {m : ℕ} {a₀ : A} {p₀ : ℕ} (n : ℕ) {a : A} {p : ℕ} → Still t f s m a₀ p₀ n a p → t a ≡ false → reads a p ≡ run (whilst t f m a₀) s p₀
unfolding whilst run
end_still zero l y = l.same
end_still {t = t} {f} {s} (suc n) {a} {p} l y =
    ap (λ (z : Bool). and_then (pick z (run (sub (f a) (λ b. whilst t f n b)) s p) (reads a p)) (λ v q. reads v q)) (sym y) ∙ l.same

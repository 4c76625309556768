-- A reading that is done several times: what was read so far, and then the turns that are left, is the whole; and how a syntax that is
-- read several times is one.
use Prim.Native.Nat.{ℕ, zero, suc, ◌+◌, ◌-◌, ◌<◌, ◌≤◌}
use native.Mathlib.Omega.{arith}
use mathlib.Core.Path.{◌≡◌, refl, ap, ◌∙◌}
use mathlib.Core.List.{List}
use lib.ListN.{set}
use mathlib.Core.Bool.{true}
use Rattle.std.specs.Prelude.{Result}
use Rattle.bitio.specs.declared.reader.BitReader.{BitReader}
use Rattle.bitio.specs.declared.refusal.Refusal.{Refusal}
use Rattle.bitio.specs.Bits.{Reading, fails, reads, and_then, read_bits}
use Rattle.syntax.specs.Syntax.{Syntax, field, read_over, run}
use Rattle.syntax.specs.Repeat.{repeat, times}
use Rattle.syntax.specs.Turns.{Reads, turns, filled}

module _ {A : Type 0} where
  -- of n turns from p₀ on, those from i on are left, from p on
  pub record Over (x : ℕ → Reading A) (n p₀ i p : ℕ) : Type 0 where
    pub same : turns (n - i) x p ≡ turns n x p₀

  pub next_over : {x : ℕ → Reading A} {n p₀ i p : ℕ} → Over x n p₀ i p → i < n → and_then (x p) (λ v q. turns (n - (i + 1)) x q) ≡ turns n x p₀
  unfolding turns
  next_over {x} {n} {p₀} {i} {p} l h =
      let m : suc (n - (i + 1)) ≡ n - i = omega arith in
      ap (λ (k : ℕ). turns k x p) m ∙ l.same

  pub end_over : {x : ℕ → Reading A} {n p₀ i p : ℕ} → Over x n p₀ i p → n ≤ i → reads tt p ≡ turns n x p₀
  unfolding turns
  end_over {x} {n} {p₀} {i} {p} l h =
      let m : 0 ≡ n - i = omega arith in
      ap (λ (k : ℕ). turns k x p) m ∙ l.same

  -- the same of a list that is filled
  pub record Filling (x : ℕ → Reading A) (n : ℕ) (none : List A) (p₀ i : ℕ) (kept : List A) (p : ℕ) : Type 0 where
    pub same : filled x i (n - i) kept p ≡ filled x 0 n none p₀

  pub next_item : {x : ℕ → Reading A} {n : ℕ} {none : List A} {p₀ i : ℕ} {kept : List A} {p : ℕ} → Filling x n none p₀ i kept p → i < n
      → and_then (x p) (λ v q. filled x (i + 1) (n - (i + 1)) (set kept i v) q) ≡ filled x 0 n none p₀
  unfolding filled
  next_item {x} {n} {none} {p₀} {i} {kept} {p} l h =
      let m : suc (n - (i + 1)) ≡ n - i = omega arith in
      ap (λ (k : ℕ). filled x i k kept p) m ∙ l.same

  pub end_item : {x : ℕ → Reading A} {n : ℕ} {none : List A} {p₀ i : ℕ} {kept : List A} {p : ℕ} → Filling x n none p₀ i kept p → n ≤ i
      → reads kept p ≡ filled x 0 n none p₀
  unfolding filled
  end_item {x} {n} {none} {p₀} {i} {kept} {p} l h =
      let m : 0 ≡ n - i = omega arith in
      ap (λ (k : ℕ). filled x i k kept p) m ∙ l.same

  then_same : {B : Type 0} (z : Reading A) {f g : A → ℕ → Reading B} → ((v : A) (q : ℕ) → f v q ≡ g v q) → and_then z f ≡ and_then z g
  then_same (fails k) e = refl
  then_same (reads v q) e = e v q

  pub times_turns : (x : Syntax A) (s : List ℕ) (n p : ℕ) → turns n (run x s) p ≡ run (times n x) s p
  unfolding turns times run
  times_turns x s zero p = refl
  times_turns x s (suc n) p = then_same (run x s p) (λ v q. times_turns x s n q)

  -- f: what a turn reads, put in its place
  module _ (x : ℕ → Reading A) (s : List ℕ) (f : ℕ → List A → Syntax (List A))
      (e : (i : ℕ) (kept : List A) (p : ℕ) → and_then (x p) (λ v q. reads (set kept i v) q) ≡ run (f i kept) s p) where
    set_then : {B : Type 0} (i : ℕ) (kept : List A) (z : Reading A) (k : List A → ℕ → Reading B)
        → and_then z (λ v q. k (set kept i v) q) ≡ and_then (and_then z (λ v q. reads (set kept i v) q)) k
    set_then i kept (fails j) k = refl
    set_then i kept (reads v q) k = refl

    pub repeat_filled : (n i : ℕ) (kept : List A) (p : ℕ) → filled x i n kept p ≡ run (repeat f i n kept) s p
    unfolding filled repeat run
    repeat_filled zero i kept p = refl
    repeat_filled (suc n) i kept p =
        then_same (x p) (λ v q. repeat_filled n (i + 1) (set kept i v) q)
        ∙ set_then i kept (x p) (λ b q. run (repeat f (i + 1) n b) s q)
        ∙ ap (λ (z : Reading (List A)). and_then z (λ b q. run (repeat f (i + 1) n b) s q)) (e i kept p)

-- fields of which nothing is kept
pub fields_turns : (s : List ℕ) (m n p : ℕ) → turns n (λ q. read_bits s q m) p ≡ run (times n (field true m (λ v. read_over))) s p
unfolding turns times run
fields_turns s m zero p = refl
fields_turns s m (suc n) p = over_then (fields_turns s m n) (read_bits s p m)
  where
    over_then : ((q : ℕ) → turns n (λ r. read_bits s r m) q ≡ run (times n (field true m (λ v. read_over))) s q)
        → (z : Reading ℕ) → and_then z (λ v q. turns n (λ r. read_bits s r m) q)
        ≡ and_then (and_then z (λ v q. reads (tt {0}) q)) (λ v q. run (times n (field true m (λ v. read_over))) s q)
    over_then e (fails j) = refl
    over_then e (reads v q) = e q

-- what a function that calls turns::times answers, by the syntax of a turn; and one that calls array_if
module _ {A : Type 0} {answers : BitReader → Result (A × BitReader) Refusal → Type 0} where
  pub by_times : (x : Syntax A) (s : List ℕ) (n p : ℕ) {z : Reading (Unit {0})} → Reads answers (run x s)
      → ((y : ℕ → Reading A) → Reads answers y → z ≡ turns n y p) → z ≡ run (times n x) s p
  by_times x s n p h e = e (run x s) h ∙ times_turns x s n p

  -- f: what a turn reads, put in its place
  pub by_array : (x : ℕ → Reading A) (s : List ℕ) (f : ℕ → List A → Syntax (List A))
      → ((i : ℕ) (kept : List A) (p : ℕ) → and_then (x p) (λ v q. reads (set kept i v) q) ≡ run (f i kept) s p)
      → (n : ℕ) (none : List A) (p : ℕ) {z : Reading (List A)} → Reads answers x
      → ((y : ℕ → Reading A) → Reads answers y → z ≡ filled y 0 n none p) → z ≡ run (repeat f 0 n none) s p
  by_array x s f g n none p h e = e x h ∙ repeat_filled x s f g n 0 none p

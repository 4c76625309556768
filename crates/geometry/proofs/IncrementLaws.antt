-- Increments of a logarithm: each is read where those before it were 1.
use Prim.Native.Nat.{ℕ, zero, suc, ◌+◌, ◌-◌, ◌<◌, ◌≤◌}
use native.Mathlib.Omega.{arith}
use Rattle.std.specs.Prelude.{max}
use mathlib.Core.Path.{◌≡◌, refl, sym, ◌∙◌}
use mathlib.Core.List.{List}
use mathlib.Core.Bool.{cond as pick}
use lib.Dec.{eqb}
use borrow.Author.Tests.{eq-eqb, ne_eqb}
use Rattle.bitio.specs.Bits.{Reading, fails, reads, and_then, read_bits}
use Rattle.bitio.specs.Fields.{read_flag}
use Rattle.bitio.proofs.BitLaws.{read-lt}
use Rattle.syntax.specs.Syntax.{run}
use Rattle.syntax.specs.Repeat.{repeat}
use Rattle.geometry.specs.Tiles.{increment, increments}

module _ (least : ℕ) (s : List ℕ) where
  -- behind the first 0 nothing is read
  stays : (n i x p : ℕ) → x < least + i → run (repeat (increment least) i n x) s p ≡ reads x p
  unfolding run repeat increment
  stays zero i x p h = refl
  stays (suc n) i x p h =
      let none : x + 0 ≡ x = omega arith in
      rw (ne_eqb x (least + i) (λ e. omega arith), none) (stays n (i + 1) x p (omega arith))

-- a bit that is looked at is a flag
by_flag : (log2 : ℕ) (more : ℕ → ℕ → Reading ℕ) → ((q : ℕ) → more log2 q ≡ reads log2 q)
    → (x : Reading ℕ) → ((v q : ℕ) → x ≡ reads v q → v < 2)
    → and_then (and_then x (λ v q. reads (eqb v 1) q)) (λ goes_on q. pick goes_on (more (log2 + 1) q) (reads log2 q))
    ≡ and_then (and_then x (λ v q. reads (log2 + v) q)) more
by_flag log2 more e (fails k) b = refl
by_flag log2 more e (reads v q) b = by-bit v (b v q refl)
  where
    by-bit : (v : ℕ) → v < 2 → pick (eqb v 1) (more (log2 + 1) q) (reads log2 q) ≡ more (log2 + v) q
    by-bit zero h = let none : log2 + 0 ≡ log2 = omega arith in rw none (sym (e q))
    by-bit (suc zero) h = refl
    by-bit (suc (suc v)) h = absurd (omega arith)

-- of the increments from p₀ on, those from log2 on are left, from p on
pub record Counting (least most : ℕ) (s : List ℕ) (p₀ log2 p : ℕ) : Type 0 where
  pub low : least ≤ log2
  pub high : log2 ≤ max least most
  pub same : run (repeat (increment least) (log2 - least) (most - log2) log2) s p ≡ run (increments least most) s p₀

module _ {least most : ℕ} {s : List ℕ} {p₀ log2 p : ℕ} (c : Counting least most s p₀ log2 p) where
  pub another : log2 < most
      → and_then (read_flag s p) (λ goes_on q.
      pick goes_on (run (repeat (increment least) (log2 + 1 - least) (most - (log2 + 1)) (log2 + 1)) s q) (reads log2 q))
      ≡ run (increments least most) s p₀
  unfolding run repeat increment read_flag
  another h =
      let j : log2 + 1 - least ≡ log2 - least + 1 = omega (arith, c.low) in
      let m : most - log2 ≡ suc (most - (log2 + 1)) = omega arith in
      let here : log2 ≡ least + (log2 - least) = omega (arith, c.low) in
      let z = rw (m, eq-eqb log2 (least + (log2 - least)) here) at c.same in
      rw j
      (by_flag log2 (λ b q. run (repeat (increment least) (log2 - least + 1) (most - (log2 + 1)) b) s q)
      (λ q. stays least s (most - (log2 + 1)) (log2 - least + 1) log2 q (omega (arith, c.low))) (read_bits s p 1) (λ v q. read-lt s p 1)
      ∙ z)

  pub final : most ≤ log2 → reads log2 p ≡ run (increments least most) s p₀
  unfolding run repeat
  final h = let m : most - log2 ≡ 0 = omega arith in rw m at c.same

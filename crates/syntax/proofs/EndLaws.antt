-- Where reading ends: not before its start, and within the bits.
use Prim.Native.Nat.{ℕ, ◌+◌, ◌≤◌}
use native.Mathlib.Omega.{arith}
use native.Mathlib.Decide.{dec_lt}
use mathlib.Core.List.{List}
use mathlib.Core.Bool.{Bool, true, false, ◌&&◌, cond as pick}
use lib.ListN.{length}
use lib.Dec.{ltb}
use Rattle.bitio.specs.Bits.{Reading, fails, reads, and_then, bits_in, read_bits}
use Rattle.bitio.proofs.BitLaws.{read-there, read_past, read_wide}
use Rattle.syntax.specs.Syntax.{Syntax, done, field, refuse, branch, run}

-- what is read from p on ends between p and e
abbrev pub Ends : {A : Type 0} → ℕ → ℕ → Reading A → Type 0
Ends p e (fails k) = Unit {0}
Ends p e (reads a r) = (p ≤ r) × (r ≤ e)

bits-end : (s : List ℕ) (p n : ℕ) → Ends p (bits_in (length s)) (read_bits s p n)
bits-end s p n =
    elim (dec_lt 64 n) [
      | yes w ↦ rw (read_wide s p n w) tt
      | no w ↦
          elim (dec_lt (bits_in (length s)) (p + n)) [
            | yes l ↦ rw (read_past s p n l) tt
            | no l ↦ rw (read-there s p n (omega arith) (omega arith)) (omega arith, omega arith)
          ]
    ]

module _ {A B : Type 0} (k : B → ℕ → Reading A) (e p : ℕ) (f : (b : B) (u : ℕ) → u ≤ e → Ends u e (k b u)) where
  then-end : (x : Reading B) → Ends p e x → Ends p e (and_then x k)
  then-end (fails j) h = tt
  then-end (reads b u) h = behind (k b u) (f b u h.1)
    where
      behind : (z : Reading A) → Ends u e z → Ends p e z
      behind (fails j) g = tt
      behind (reads a r) g = (omega (arith, h.0, g.0), g.1)

refused_end : {A : Type 0} (p e n : ℕ) (b : Bool) (x : Reading A) → Ends p e x → Ends p e (pick b (fails n) x)
refused_end p e n true x h = tt
refused_end p e n false x h = h

pub ends : {A : Type 0} (f : Syntax A) (s : List ℕ) (p : ℕ) → p ≤ bits_in (length s) → Ends p (bits_in (length s)) (run f s p)
unfolding run
ends (done a) s p h = (omega arith, h)
ends (field true n k) s p h = then-end (λ v q. run (k v) s q) (bits_in (length s)) p (λ b u g. ends (k b) s u g) (read_bits s p n) (bits-end s p n)
ends (field false n k) s p h = ends (k 0) s p h
ends (refuse r n k) s p h = refused_end p (bits_in (length s)) n (ltb 0 n && r) (run k s p) (ends k s p h)
ends (branch true x y k) s p h = then-end (λ v q. run (k v) s q) (bits_in (length s)) p (λ b u g. ends (k b) s u g) (run x s p) (ends x s p h)
ends (branch false x y k) s p h = then-end (λ v q. run (k v) s q) (bits_in (length s)) p (λ b u g. ends (k b) s u g) (run y s p) (ends y s p h)

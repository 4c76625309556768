-- A flag is a bit that is 1.
use Prim.Native.Nat.{ℕ}
use mathlib.Core.Path.{◌≡◌, refl}
use mathlib.Core.List.{List}
use mathlib.Core.Bool.{Bool}
use lib.Dec.{eqb}
use Rattle.bitio.specs.Bits.{Reading, fails, reads, and_then, read_bits}
use Rattle.bitio.specs.Fields.{read_flag}

flag_of : {A : Type 0} (k : Bool → ℕ → Reading A) (x : Reading ℕ) → and_then (and_then x (λ v q. reads (eqb v 1) q)) k ≡ and_then x (λ v q. k (eqb v 1) q)
flag_of k (fails j) = refl
flag_of k (reads v q) = refl

pub flag_then : {A : Type 0} (s : List ℕ) (p : ℕ) (k : Bool → ℕ → Reading A) → and_then (read_flag s p) k ≡ and_then (read_bits s p 1) (λ v q. k (eqb v 1) q)
unfolding read_flag
flag_then s p k = flag_of k (read_bits s p 1)

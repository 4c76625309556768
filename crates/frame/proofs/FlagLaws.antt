-- A bit that is read as a flag, where AV1's syntax has the number 0 or 1.
use Prim.Native.Nat.{ℕ, zero, suc, ◌<◌}
use native.Mathlib.Omega.{arith}
use mathlib.Core.Path.{◌≡◌, refl}
use mathlib.Core.List.{List}
use mathlib.Core.Bool.{Bool, true, false, not, cond as pick}
use lib.Dec.{eqb}
use Rattle.bitio.specs.Bits.{Reading, fails, reads, and_then, read_bits}
use Rattle.bitio.specs.Fields.{read_flag, flag_or}
use Rattle.header.proofs.ReadLaws.{Holds, bits-lt}

-- the number of a flag
abbrev pub bit : Bool → ℕ
bit b = pick b 1 0

-- a flag that was read, as f(1)
abbrev pub as_bit : Reading Bool → Reading ℕ
as_bit (fails k) = fails k
as_bit (reads b p) = reads (bit b) p

-- f(1) reads that
pub bit_read : (s : List ℕ) (p : ℕ) → read_bits s p 1 ≡ as_bit (read_flag s p)
unfolding read_flag
bit_read s p = go (read_bits s p 1) (bits-lt s p 1)
  where
    go : (x : Reading ℕ) → Holds (λ v. v < 2) x → x ≡ as_bit (and_then x (λ v q. reads (eqb v 1) q))
    go (fails k) h = refl
    go (reads zero q) h = refl
    go (reads (suc zero) q) h = refl
    go (reads (suc (suc v)) q) h = absurd (omega arith)

-- and so where it is there on a condition
pub bit_if : (s : List ℕ) (p : ℕ) (on : Bool) → pick on (read_bits s p 1) (reads 0 p) ≡ as_bit (flag_or s p on false)
unfolding flag_or
bit_if s p true = bit_read s p
bit_if s p false = refl

-- what tests of the number say
pub bit_is : (b : Bool) → eqb (bit b) 1 ≡ b
bit_is true = refl
bit_is false = refl

pub bit_off : (b : Bool) → eqb (bit b) 0 ≡ not b
bit_off true = refl
bit_off false = refl

-- for functions whose specification reads f(1) where they read a flag
pub ruleset flags = (bit_read, bit_is, bit_off)

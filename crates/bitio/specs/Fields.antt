-- Flags, and fields that are there only on a condition: else they count as a given value and take no bits.
use Rattle.std.specs.Prelude.{ℕ, List, Bool, cond as pick, eqb}
use Rattle.bitio.specs.Parse.{Answer, refused, accepted}
use Rattle.bitio.specs.Bits.{Reading, fails, reads, and_then, read_bits}
use Rattle.bitio.specs.Uvlc.{uvlc}

-- f(1), as a flag
unfoldable pub read_flag : List ℕ → ℕ → Reading Bool
read_flag s p = and_then (read_bits s p 1) (λ v q. reads (eqb v 1) q)

-- f(n) where on
unfoldable pub read_or : List ℕ → ℕ → Bool → ℕ → ℕ → Reading ℕ
read_or s p on n other = pick on (read_bits s p n) (reads other p)

-- f(1) where on, as a flag
unfoldable pub flag_or : List ℕ → ℕ → Bool → Bool → Reading Bool
flag_or s p on other = pick on (read_flag s p) (reads other p)

-- uvlc where on, refused from so many leading zeros on; else 0
unfoldable pub uvlc_or : ℕ → List ℕ → ℕ → Bool → Reading ℕ
uvlc_or limit s p on = pick on (uvlc limit s p) (reads 0 p)

-- what was read, wherever it ended
abbrev pub answer_of : {A : Type 0} → Reading A → Answer A
answer_of (fails k) = refused k
answer_of (reads a p) = accepted a

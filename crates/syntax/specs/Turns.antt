-- A reading that is done several times.
use Rattle.std.specs.Prelude.{◌≡◌, ℕ, zero, suc, ◌+◌, List, set, Result}
use Rattle.bitio.specs.Bits.{Reading, reads, and_then}
use Rattle.bitio.specs.Read.{reading}
use Rattle.bitio.specs.declared.reader.BitReader.{BitReader}
use Rattle.bitio.specs.declared.refusal.Refusal.{Refusal}

-- whatever is answered, it is what x reads
pub record Reads {A : Type 0} (answers : BitReader → Result (A × BitReader) Refusal → Type 0) (x : ℕ → Reading A) : Type 0 where
  pub same : (r : BitReader) (out : Result (A × BitReader) Refusal) → answers r out → reading out ≡ x r.pos

-- n times, and nothing is kept
unfoldable pub turns : {A : Type 0} → ℕ → (ℕ → Reading A) → ℕ → Reading (Unit {0})
turns zero x p = reads tt p
turns (suc n) x p = and_then (x p) (λ v q. turns n x q)

-- n times, into a list from the place i on
unfoldable pub filled : {A : Type 0} → (ℕ → Reading A) → ℕ → ℕ → List A → ℕ → Reading (List A)
filled x i zero kept p = reads kept p
filled x i (suc n) kept p = and_then (x p) (λ v q. filled x (i + 1) n (set kept i v) q)

-- Steps of the emitter's code.
use mathlib.Core.Path.{◌≡◌, sym}
use Prim.Native.Nat.{ℕ, ◌*◌, ◌%◌, ◌^◌, ◌<◌, ◌≤◌, min}
use native.Mathlib.Omega.{arith}
use mathlib.Core.Bool.{true}
use lib.Dec.{eqb, ltb}
use lib.Pow.{pow_mono}
use borrow.Author.Tests.{lt-ltb, eq-eqb}
use Rattle.bitio.proofs.BitLaws.{shl_one}
use Rattle.emittable.specs.PutFields.{fits}
use Rattle.header.specs.SequencePoints.{point_count}
use Rattle.emittable.specs.Emittable.{opening_fits}
use Rattle.header.specs.declared.seq_header.Opening.{Opening}
use Rattle.emittable.proofs.BackSequence.{opening_count}

-- ---- whether fields fit

pub fits_code : (n v : ℕ) → n < 64 → ltb v (1 * 2 ^ n % 2 ^ 64) ≡ fits n v
unfolding fits
fits_code n v h = rw (shl_one n h)

pub fits_wide : (n v : ℕ) → v < 2 ^ 64 → 64 ≤ n → true ≡ fits n v
unfolding fits
fits_wide n v h k = sym (lt-ltb v (2 ^ n) (omega (arith, pow_mono k)))

-- ---- the whole header

-- where what stands before them fits, there are as many operating points as it says
pub opening_good : (o : Opening) {k : ℕ} → opening_fits o ≡ true → k ≡ min (point_count o) 32 → eqb k (point_count o) ≡ true
opening_good o {k} g e = let m = opening_count o g in eq-eqb k (point_count o) (omega arith)

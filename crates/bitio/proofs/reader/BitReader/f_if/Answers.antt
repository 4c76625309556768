use Rattle.std.proofs.Common.{◌≡◌, ◌<◌, ◌^◌, ℕ, List, Result, Ok, Err, IfOk, sym}
use Rattle.bitio.specs.Bits.{read_bits}
use Rattle.bitio.specs.Read.{reading}
use Rattle.bitio.specs.declared.reader.BitReader.{BitReader}
use Rattle.bitio.specs.declared.refusal.Refusal.{Refusal}
use Rattle.bitio.proofs.BitLaws.{read-lt}
use Rattle.bitio.proofs.reader.BitReader.f_if.Goals as goal

read-fits : (s : List ℕ) (p n : ℕ) (r : Result (ℕ × BitReader) Refusal) → reading r ≡ read_bits s p n → IfOk r (λ x. x.0 < 2 ^ n)
read-fits s p n (Ok x) e = read-lt s p n (sym e)
read-fits s p n (Err k) e = tt

pub returns-then-on-clause-fits : goal.returns-then-on-clause-fits
returns-then-on-clause-fits c = read-fits _ _ _ _ c.f.ensures

use Rattle.std.proofs.Common.{◌≡◌, ◌+◌, ℕ, List, arith, rules, min}
use native.Mathlib.Decide.{dec_lt}
use Rattle.bitio.specs.Bits.{read_bits}
use Rattle.bitio.proofs.BitLaws.{read_wide}
use Rattle.syntax.proofs.over.width_if.Goals as goal

-- one width above 64 is as good as another
wide-same : (s : List ℕ) (p less : ℕ) → read_bits s p (min less 64 + 1) ≡ read_bits s p (less + 1)
wide-same s p less =
    elim (dec_lt less 64) [
      | yes l ↦ let e : min less 64 ≡ less = omega arith in rw e
      | no l ↦ rw (read_wide s p (min less 64 + 1) (omega arith), read_wide s p (less + 1) (omega arith))
    ]

pub returns : goal.returns
returns c = let e = wide-same c.args.s.now c.args.r.pos c.args.less in search (rules, e)

-- AV1 4.10.7 ns(n): near-uniform numbers below n.
use Rattle.std.specs.Prelude.{ℕ, ◌+◌, ◌-◌, ◌*◌, ◌^◌, true, not, cond as pick, ltb}
use Rattle.bitio.specs.Write.{halvings}
use Rattle.syntax.specs.Syntax.{Syntax, done, field}

-- m: n has w bits, and 2 ^ w - n numbers take w - 1 bits
abbrev pub short_ones : ℕ → ℕ
short_ones n = 2 ^ (halvings 32 n + 1) - n

abbrev pub near_of : ℕ → ℕ → ℕ → ℕ
near_of m v extra = pick (ltb v m) v (2 * v - m + extra)

unfoldable pub ns : ℕ → Syntax ℕ
ns n =
    field true (halvings 32 n) (λ v.
    field (not (ltb v (short_ones n))) 1 (λ extra.
    done (near_of (short_ones n) v extra)))

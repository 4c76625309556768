-- AV1 4.10.6 su(n): n bits as two's complement.
use Rattle.std.specs.Prelude.{ℕ, ◌-◌, ◌^◌, cond as pick, ltb, ℤ, pos, ◌-ℤ◌}

-- the n bits v
abbrev pub su : ℕ → ℕ → ℤ
su n v = pick (ltb v (2 ^ (n - 1))) (pos v) (pos v -ℤ pos (2 ^ n))

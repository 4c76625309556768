-- The bits of one field, before those of what follows it; and whether some bits read as its value.
use Rattle.std.specs.Prelude.{ℕ, ◌+◌, ◌-◌, ◌^◌, List, ◌++◌, Bool, not, ◌||◌, cond as pick, eqb, ltb}
use mir.Val.{bool_byte}
use Rattle.bitio.specs.Write.{bits_of, uvlc_width}

-- ---- bits

-- f(n)
unfoldable pub put : ℕ → ℕ → List ℕ → List ℕ
put n v l = bits_of n v ++ l

-- f(n) where on
unfoldable pub put_or : Bool → ℕ → ℕ → List ℕ → List ℕ
put_or on n v l = pick on (put n v l) l

-- a flag
unfoldable pub put_flag : Bool → List ℕ → List ℕ
put_flag v l = put 1 (bool_byte v) l

-- a flag where on
unfoldable pub put_flag_or : Bool → Bool → List ℕ → List ℕ
put_flag_or on v l = pick on (put_flag v l) l

-- uvlc where on
unfoldable pub put_uvlc_or : Bool → ℕ → List ℕ → List ℕ
put_uvlc_or on v l = pick on (put (uvlc_width v) (v + 1) l) l

-- ---- values

-- f(n)
unfoldable pub fits : ℕ → ℕ → Bool
fits n v = ltb v (2 ^ n)

-- f(n) where on, else the value that it counts as
unfoldable pub fits_or : Bool → ℕ → ℕ → ℕ → Bool
fits_or on n other v = pick on (fits n v) (eqb v other)

-- any flag where on, else the one that it counts as
unfoldable pub flag_fits_or : Bool → Bool → Bool → Bool
flag_fits_or on other v = on || pick other v (not v)

-- a uvlc of fewer than 32 zeros where on, else 0
unfoldable pub uvlc_fits_or : Bool → ℕ → Bool
uvlc_fits_or on v = pick on (ltb v (2 ^ 32 - 1)) (eqb v 0)

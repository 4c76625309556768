-- An OBU put into lent memory in written form.
use Rattle.std.specs.Prelude.{ℕ, ◌+◌, List, cond as pick, length}
use Rattle.std.proofs.Math.Option.{Option}
use Rattle.bitio.specs.Parse.{Answer, refused}
use Rattle.bitio.specs.Lent.{placed, lent}
use Rattle.bitio.specs.Leb.{leb_bytes}
use Rattle.obu.specs.Obu.{Obu, passes, ext_bytes, obu_bytes}

-- the length of an OBU in written form
abbrev pub obu_length : Option ℕ → ℕ → ℕ
obu_length e n = 1 + length (ext_bytes e) + length (leb_bytes n) + n

abbrev pub obu : ℕ → Option ℕ → List ℕ → Obu
obu t e p = record { type = t; ext = e; payload = p }

-- the place behind it; 2: a type that does not pass, 35: no room
unfoldable pub obu_placed : List ℕ → ℕ → ℕ → Option ℕ → List ℕ → Answer ℕ
obu_placed d at t e p = pick (passes t) (placed d at (obu_bytes (obu t e p))) (refused 2)

-- d afterwards
unfoldable pub obu_lent : List ℕ → ℕ → ℕ → Option ℕ → List ℕ → List ℕ
obu_lent d at t e p = pick (passes t) (lent d at (obu_bytes (obu t e p))) d

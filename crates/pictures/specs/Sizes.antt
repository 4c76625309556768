-- What the checks of sizes answer, by 01's numbers.
use Rattle.std.specs.Prelude.{ℕ, List, [], ◌∷◌}
use Rattle.std.proofs.Math.Option.{none}
use Rattle.pictures.specs.Assemble.{Outcome, stopped, verdict, overall, sizes}
use Rattle.pictures.specs.Segments.{segments_of}

-- 21 no segments, then 22 to 25
abbrev pub sized_all : ℕ → List ℕ → Outcome Unit
sized_all gop [] = stopped 21 none
sized_all gop (n ∷ ns) = sizes gop (n ∷ ns)

-- 36, or all ranges lie within s
abbrev pub ranged : List ℕ → List ℕ → Outcome Unit
ranged s rs = overall (verdict (segments_of s rs))

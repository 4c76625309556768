-- Lists of units as lent memory has them: their bytes one behind the other, and the end of each.
use Rattle.std.specs.Prelude.{ℕ, ◌+◌, ◌-◌, List, [], ◌∷◌, cond as pick, ◌&&◌, length, take, drop, leb, eqb}
use Rattle.bitio.specs.Parse.{Answer, refused, accepted, answer, onto}
use Rattle.bitio.specs.Lent.{pasted}
use Rattle.container.specs.Stream.{stream_bytes}
pub use Rattle.container.specs.declared.units.Sizes.{Sizes}

-- the end of each unit, the first of which starts at `at`
unfoldable pub ends_of : ℕ → List (List ℕ) → List ℕ
ends_of at [] = []
ends_of at (u ∷ us) = (at + length u) ∷ ends_of (at + length u) us

-- the units whose ends are given, s being the bytes from `at` on.
-- 36: an end falls, or the last is not where the bytes end
unfoldable pub units_from : ℕ → List ℕ → List ℕ → Answer (List (List ℕ))
units_from at s [] = pick (eqb (length s) 0) (accepted []) (refused 36)
units_from at s (e ∷ es) =
    pick (leb at e && leb (e - at) (length s)) (onto (take (e - at) s) (units_from e (drop (e - at) s) es)) (refused 36)

abbrev pub units_at : List ℕ → List ℕ → Answer (List (List ℕ))
units_at s es = units_from 0 s es

-- ---- what a reader answers, and what lent memory holds afterwards

-- how many bytes the units have, and how many units there are
abbrev pub sizes_of : Answer (List (List ℕ)) → Answer Sizes
sizes_of x = answer (λ us. record { bytes = length (stream_bytes us); units = length us }) x

abbrev pub bytes_after : Answer (List (List ℕ)) → List ℕ → List ℕ
bytes_after (refused k) d = d
bytes_after (accepted us) d = pasted d 0 (stream_bytes us)

abbrev pub ends_after : Answer (List (List ℕ)) → List ℕ → List ℕ
ends_after (refused k) d = d
ends_after (accepted us) d = pasted d 0 (ends_of 0 us)

-- ---- what a writer answers, and what lent memory holds afterwards

abbrev pub count_of : {A : Type 0} → Answer (List A) → Answer ℕ
count_of x = answer length x

abbrev pub out_after : {A : Type 0} → Answer (List A) → List A → List A
out_after (refused k) d = d
out_after (accepted bs) d = pasted d 0 bs

-- Laws of what holds of each element of a list.
use Prim.Native.Nat.{ℕ, zero, suc}
use mathlib.Core.List.{List, [], ◌∷◌, ◌++◌}
use lib.ListN.{take, drop}
use Rattle.bitio.specs.Every.{Every}
use Rattle.bitio.specs.Every.Every.{nothing, also}

pub every_append : {A : Type 0} {P : A → Type 0} {l m : List A} → Every P l → Every P m → Every P (l ++ m)
every_append nothing q = q
every_append (also p ps) q = also p (every_append ps q)

module _ {A : Type 0} (P : A → Type 0) where
  pub every_take : (n : ℕ) (l : List A) → Every P l → Every P (take n l)
  every_take zero l e = nothing
  every_take (suc n) [] e = nothing
  every_take (suc n) (x ∷ l) (also p ps) = also p (every_take n l ps)

  pub every_drop : (n : ℕ) (l : List A) → Every P l → Every P (drop n l)
  every_drop zero l e = e
  every_drop (suc n) [] e = nothing
  every_drop (suc n) (x ∷ l) (also p ps) = every_drop n l ps

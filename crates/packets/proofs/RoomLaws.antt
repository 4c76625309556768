-- A count that stops at the largest usize has room where the number itself has.
use Prim.Native.Nat.{ℕ}
use native.Mathlib.Omega.{arith}
use mathlib.Core.Path.{◌≡◌, refl}
use mathlib.Core.Bool.{Bool, true, false}
use lib.Dec.{leb}
use borrow.Author.Tests.{lt-leb, leb-true, leb-false}
use Rattle.bitio.specs.Limits.{limit, capped}
use Rattle.container.specs.Limits.{Room, fits}

pub fits-capped : (x u : ℕ) (room : Room) → fits (capped x) u room ≡ fits x u room
fits-capped x u room = go (leb x limit) refl
  where
    go : (b : Bool) → leb x limit ≡ b → fits (capped x) u room ≡ fits x u room
    go true p =
        let k = leb-true x limit p in
        let e : capped x ≡ x = omega arith in
        rw e
    go false p =
        let k = leb-false x limit p in
        rw (p, lt-leb (capped x) limit (omega arith))

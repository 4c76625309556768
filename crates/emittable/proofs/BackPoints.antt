-- The operating points are read back.
use mathlib.Core.Path.{◌≡◌}
use Prim.Native.Nat.{ℕ, ◌≤◌}
use native.Mathlib.Omega.{arith}
use mathlib.Core.List.{List, [], ◌∷◌}
use mathlib.Core.Bool.{true}
use lib.ListN.{length}
use Rattle.bitio.proofs.SeesLaws.{Sees}
use Rattle.header.specs.SequencePoints.{delay_bits, operating_point, operating_points}
use Rattle.emittable.specs.PutSequence.{put_point, put_points}
use Rattle.emittable.specs.Emittable.{point_fits, points_fit}
use Rattle.header.specs.declared.seq_header.Opening.{Opening}
use Rattle.header.specs.declared.seq_header.OperatingPoint.{OperatingPoint}
use Rattle.emittable.proofs.BackFields.{Back, done, next, bits_back, or-back, flag-or-back}
use Rattle.bitio.proofs.ParseLaws.{and_both}

-- AV1 5.5.1: one operating point, with AV1 5.5.5 operating_parameters_info
pub point-back : (o : Opening) (x : OperatingPoint) (l : List ℕ) {s : List ℕ} {p : ℕ} → delay_bits o ≤ 64 → point_fits o x ≡ true → Sees s p (put_point o x l) → Back s (operating_point s p o) x l
unfolding put_point point_fits operating_point
point-back o x l w g k =
    let (g, g9) = and_both _ _ g in
    let (g, g8) = and_both _ _ g in
    let (g, g7) = and_both _ _ g in
    let (g, g6) = and_both _ _ g in
    let (g, g5) = and_both _ _ g in
    let (g, g4) = and_both _ _ g in
    let (g, g3) = and_both _ _ g in
    let (g1, g2) = and_both _ _ g in
    next _ _ (or-back _ _ _ _ _ g1 (omega arith) k) (λ p k.
    next _ _ (bits_back _ _ _ g2 (omega arith) k) (λ p k.
    next _ _ (flag-or-back _ _ _ _ g3 k) (λ p k.
    next _ _ (flag-or-back _ _ _ _ g4 k) (λ p k.
    next _ _ (or-back _ _ _ _ _ g5 w k) (λ p k.
    next _ _ (or-back _ _ _ _ _ g6 w k) (λ p k.
    next _ _ (flag-or-back _ _ _ _ g7 k) (λ p k.
    next _ _ (flag-or-back _ _ _ _ g8 k) (λ p k.
    next _ _ (or-back _ _ _ _ _ g9 (omega arith) k) (λ p k.
    done _ k)))))))))

pub points-back : (o : Opening) (xs : List OperatingPoint) (l : List ℕ) {s : List ℕ} {p : ℕ} → delay_bits o ≤ 64 → points_fit o xs ≡ true → Sees s p (put_points o xs l)
    → Back s (operating_points (length xs) s p o) xs l
unfolding points_fit put_points operating_points
points-back o [] l w g k = done _ k
points-back o (x ∷ xs) l w g k =
    let (g1, g2) = and_both _ _ g in
    next _ _ (point-back _ _ _ w g1 k) (λ p k.
    next _ _ (points-back _ xs _ w g2 k) (λ p k.
    done _ k))

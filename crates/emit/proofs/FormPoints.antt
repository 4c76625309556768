-- The operating points, as they are read.
use mathlib.Core.Path.{◌≡◌, refl, ap}
use Prim.Native.Nat.{ℕ, zero, suc}
use mathlib.Core.List.{List}
use lib.ListN.{length}
use Rattle.header.specs.SequencePoints.{operating_point, operating_points}
use Rattle.emittable.specs.PutSequence.{put_point, put_points}
use Rattle.emittable.specs.Emittable.{point_fits, points_fit}
use Rattle.header.specs.declared.seq_header.Opening.{Opening}
use Rattle.emit.proofs.FormFields.{Holds, holds-reads, holds_then, Formed, formed-then, bits-form, or-form, flag-or-form}

-- AV1 5.5.1: one operating point, with AV1 5.5.5 operating_parameters_info
pub point-form : (s : List ℕ) (p : ℕ) (o : Opening) → Holds (λ x q. Formed s p (point_fits o x) (put_point o x) q) (operating_point s p o)
unfolding put_point point_fits operating_point
point-form s p o =
    holds_then _ (or-form _ _ _ _ _) (λ v p f1.
    holds_then _ (bits-form _ _ _) (λ v p f2.
    holds_then _ (flag-or-form _ _ _ _) (λ v p f3.
    holds_then _ (flag-or-form _ _ _ _) (λ v p f4.
    holds_then _ (or-form _ _ _ _ _) (λ v p f5.
    holds_then _ (or-form _ _ _ _ _) (λ v p f6.
    holds_then _ (flag-or-form _ _ _ _) (λ v p f7.
    holds_then _ (flag-or-form _ _ _ _) (λ v p f8.
    holds_then _ (or-form _ _ _ _ _) (λ v p f9.
    holds-reads (formed-then (formed-then (formed-then (formed-then (formed-then (formed-then (formed-then (formed-then f1 f2) f3) f4) f5) f6) f7) f8) f9))))))))))

-- as many as are asked for
pub points-form : (k : ℕ) (s : List ℕ) (p : ℕ) (o : Opening) → Holds (λ xs q. (length xs ≡ k) × Formed s p (points_fit o xs) (put_points o xs) q) (operating_points k s p o)
unfolding put_points points_fit operating_points
points-form zero s p o = holds-reads (refl, record { good = refl; bits = refl })
points-form (suc k) s p o =
    holds_then _ (point-form _ _ _) (λ x p f1.
    holds_then _ (points-form k _ _ _) (λ xs p f2.
    holds-reads (ap suc f2.0, formed-then f1 f2.1)))

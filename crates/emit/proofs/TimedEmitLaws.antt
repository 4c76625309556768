-- Laws of a timed sequence header, emitted and read back.
use mathlib.Core.Path.{◌≡◌, refl, ap, ◌∙◌}
use Prim.Native.Nat.{ℕ, ◌*◌, ◌^◌, ◌<◌}
use native.Mathlib.Omega.{arith}
use mathlib.Core.List.{List, [], ◌∷◌, ◌++◌}
use mathlib.Core.Bool.{Bool, true, false, not, ◌&&◌, cond as pick}
use lib.Dec.{leb, eqb}
use lib.ListN.{length}
use borrow.Author.Tests.{lt-ltb}
use Rattle.bitio.specs.Parse.{accepted}
use Rattle.emittable.specs.PutFields.{fits, fits_or, flag_fits_or, uvlc_fits_or}
use Rattle.header.specs.SequencePoints.{point_count}
use Rattle.header.specs.Sequence.{Sequence, parse_sequence}
use Rattle.emittable.specs.Emittable.{timing_fits, model_fits, opening_fits, point_fits, points_fit, emittable}
use Rattle.emit.specs.Emit.{sequence_bytes}
use Rattle.header.specs.Timed.{at_least_one, rate, retimed, with_timing, timed_at}
use Rattle.header.specs.declared.seq_header.DecoderModelInfo.{DecoderModelInfo}
use Rattle.header.specs.declared.seq_header.Opening.{Opening}
use Rattle.header.specs.declared.seq_header.OperatingPoint.{OperatingPoint}
use Rattle.bitio.proofs.ParseLaws.{and_both}
use Rattle.emit.proofs.EmitLaws.{parse-emittable, parse-emitted}

-- two conditions that hold
each : {a b : Bool} → a ≡ true → b ≡ true → a && b ≡ true
each e f = rw e f

-- 0 counts as 1
one-fits : (n : ℕ) → n < 2 ^ 32 → fits 32 (at_least_one n) ≡ true
unfolding fits
one-fits n h = lt-ltb (at_least_one n) (2 ^ 32) (go (eqb n 0))
  where
    go : (t : Bool) → pick t 1 n < 2 ^ 32
    go true = omega arith
    go false = h

-- the timing has its widths
rate-fits : (num den : ℕ) → num < 2 ^ 32 → den < 2 ^ 32 → timing_fits true (rate num den) ≡ true
unfolding timing_fits fits_or flag_fits_or uvlc_fits_or
rate-fits num den a b = each (each (each (one-fits den b) (one-fits num a)) refl) refl

-- any flag fits where it is there
any_flag : (v : Bool) → flag_fits_or true false v ≡ true
unfolding flag_fits_or
any_flag v = refl

-- a decoder model that fits, fits behind timing info
model-timed : (timed : Bool) (m : DecoderModelInfo) → model_fits timed m ≡ true → model_fits true m ≡ true
unfolding model_fits
model-timed timed m g =
    let (g, g5) = and_both _ _ g in
    let (g, g4) = and_both _ _ g in
    let (g, g3) = and_both _ _ g in
    let (g1, g2) = and_both (flag_fits_or timed false m.decoder_model_info_present) _ g in
    each (each (each (each (any_flag m.decoder_model_info_present) g2) g3) g4) g5

-- what stands before the operating points
opening-timed : (num den : ℕ) (o : Opening) → o.reduced_still_picture_header ≡ false → num < 2 ^ 32 → den < 2 ^ 32 → opening_fits o ≡ true → opening_fits (retimed (rate num den) o) ≡ true
unfolding opening_fits retimed
opening-timed num den o r a b g =
    let (g, g5) = and_both _ _ g in
    let (g, g4) = and_both _ _ g in
    let (g, g3) = and_both _ _ g in
    let (g1, g2) = and_both (leb o.seq_profile 2) _ g in
    each (each (each (each g1 timing) (model-timed o.timing.timing_info_present o.model g3)) g4) g5
  where
    timing : timing_fits (not o.reduced_still_picture_header) (rate num den) ≡ true
    timing = rw r (rate-fits num den a b)

-- the operating points do not hang on timing
points-timed : (num den : ℕ) (o : Opening) (xs : List OperatingPoint) → points_fit (retimed (rate num den) o) xs ≡ points_fit o xs
unfolding points_fit point_fits retimed
points-timed num den o [] = refl
points-timed num den o (x ∷ xs) = ap (λ b. point_fits o x && b) (points-timed num den o xs)

module _ (num den : ℕ) (q : Sequence) (full : q.header.opening.reduced_still_picture_header ≡ false) (a : num < 2 ^ 32) (b : den < 2 ^ 32) where
  -- an emittable header that is not reduced is emittable with its timing, whatever timing it had
  pub timed-emittable : emittable q ≡ true → emittable (timed_at num den q) ≡ true
  unfolding emittable with_timing retimed
  timed-emittable g =
      let (g, g4) = and_both _ _ g in
      let (g, g3) = and_both _ _ g in
      let (g1, g2) = and_both (opening_fits q.header.opening) (eqb (length q.points) (point_count q.header.opening)) g in
      each (each (each (opening-timed num den q.header.opening full a b g1) g2) (points-timed num den q.header.opening q.points ∙ g3)) g4

  -- emitted, it is read back as itself timed, whatever bytes stand behind
  pub timed-back : (s rest : List ℕ) → parse_sequence s ≡ accepted q → 8 * length (sequence_bytes (timed_at num den q) ++ rest) < 2 ^ 64
      → parse_sequence (sequence_bytes (timed_at num den q) ++ rest) ≡ accepted (timed_at num den q)
  timed-back s rest e small = parse-emitted (timed_at num den q) (timed-emittable (parse-emittable s q e)) rest small

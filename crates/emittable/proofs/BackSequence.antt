-- A sequence header's fields are read back.
use mathlib.Core.Path.{◌≡◌, sym}
use Prim.Native.Nat.{ℕ, ◌≤◌, ◌<◌}
use native.Mathlib.Omega.{arith}
use mathlib.Core.List.{List}
use mathlib.Core.Bool.{Bool, true, false, not}
use lib.Dec.{leb}
use lib.ListN.{length}
use borrow.Author.Tests.{ltb-true, eqb-true}
use Rattle.bitio.proofs.SeesLaws.{Sees}
use Rattle.emittable.specs.PutFields.{fits, fits_or, flag_fits_or}
use Rattle.header.specs.SequenceRules.{ours}
use Rattle.header.specs.SequencePoints.{delay_bits, operating_points, point_count}
use Rattle.header.specs.Sequence.{Sequence, sequence_header}
use Rattle.emittable.specs.PutSequence.{put_points, put_sequence}
use Rattle.emittable.specs.Emittable.{model_fits, opening_fits, points_fit, emittable}
use Rattle.header.specs.declared.seq_header.DecoderModelInfo.{DecoderModelInfo}
use Rattle.header.specs.declared.seq_header.Opening.{Opening}
use Rattle.header.specs.declared.seq_header.OperatingPoint.{OperatingPoint}
use Rattle.emittable.proofs.BackFields.{Back, done, next}
use Rattle.bitio.proofs.ParseLaws.{and_both}
use Rattle.emittable.proofs.BackOpening.{opening-back}
use Rattle.emittable.proofs.BackPoints.{points-back}
use Rattle.emittable.proofs.BackCoding.{coding-back}

-- five bits, or none
five : (on : Bool) (v : ℕ) → fits_or on 5 0 v ≡ true → v < 32
unfolding fits_or fits
five true v g = ltb-true v 32 g
five false v g = let e = eqb-true v 0 g in omega arith

-- the width of a buffer delay
model-delay : (timed : Bool) (m : DecoderModelInfo) → model_fits timed m ≡ true → m.buffer_delay_length_minus_1 < 32
unfolding model_fits
model-delay timed m g =
    let (g, g5) = and_both _ _ g in
    let (g, g4) = and_both _ _ g in
    let (g, g3) = and_both _ _ g in
    let (g1, g2) = and_both (flag_fits_or timed false m.decoder_model_info_present) _ g in
    five m.decoder_model_info_present _ g2

pub opening_delay : (o : Opening) → opening_fits o ≡ true → delay_bits o ≤ 32
unfolding opening_fits
opening_delay o g =
    let (g, g5) = and_both _ _ g in
    let (g, g4) = and_both _ _ g in
    let (g, g3) = and_both _ _ g in
    let (g1, g2) = and_both (leb o.seq_profile 2) _ g in
    let h = model-delay o.timing.timing_info_present o.model g3 in
    omega arith

-- at most 32 operating points
pub opening_count : (o : Opening) → opening_fits o ≡ true → point_count o ≤ 32
unfolding opening_fits
opening_count o g =
    let (g, g5) = and_both _ _ g in
    let (g, g4) = and_both _ _ g in
    let (g, g3) = and_both _ _ g in
    let (g1, g2) = and_both (leb o.seq_profile 2) _ g in
    let h = five (not o.reduced_still_picture_header) o.operating_points_cnt_minus_1 g5 in
    omega arith

-- as many operating points as are said
counted : (o : Opening) (xs : List OperatingPoint) (l : List ℕ) {s : List ℕ} {p : ℕ} → delay_bits o ≤ 64 → length xs ≡ point_count o → points_fit o xs ≡ true
    → Sees s p (put_points o xs l) → Back s (operating_points (point_count o) s p o) xs l
counted o xs l w e g k = rw (sym e) (points-back o xs l w g k)

-- where the bits of a header's fields are seen, these fields are read, and then what stands behind them is seen
pub sequence-back : (q : Sequence) (l : List ℕ) {s : List ℕ} {p : ℕ} → emittable q ≡ true → Sees s p (put_sequence q l) → Back s (sequence_header ours s p) q l
unfolding emittable put_sequence sequence_header
sequence-back q l g k =
    let (g, g4) = and_both _ _ g in
    let (g, g3) = and_both _ _ g in
    let (g1, g2) = and_both _ _ g in
    let d = opening_delay q.header.opening g1 in
    let w : delay_bits q.header.opening ≤ 64 = omega arith in
    next _ _ (opening-back _ _ g1 k) (λ p k.
    next _ _ (counted _ _ _ w (eqb-true _ _ g2) g3 k) (λ p k.
    next _ _ (coding-back _ _ _ _ g4 k) (λ p k.
    done _ k)))

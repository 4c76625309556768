-- A payload that was written field by field is the one that the fields have.
use mathlib.Core.Path.{◌≡◌, sym, ap, ◌∙◌}
use Prim.Native.Nat.{ℕ, zero, suc, ◌+◌, ◌*◌, ◌-◌, ◌/◌, ◌%◌, ◌^◌, ◌≤◌, ◌<◌}
use native.Mathlib.Omega.{arith}
use native.Mathlib.Decide.{dec_lt}
use mathlib.Core.List.{List, [], ◌++◌, append-nil}
use mathlib.Core.Bool.{Bool, true, false, not}
use lib.Dec.{leb, eqb, lit<}
use lib.ListN.{length, get_or, take, drop, replicate, length-take, take-append-drop, get_or-eq_default}
use lib.Seq.{get_or-take, length-take-le, take_at}
use borrow.Author.Tests.{ltb-true, eqb-true}
use Rattle.bitio.specs.Bits.{Bytes}
use Rattle.bitio.specs.Write.{bits_of, unpack, trailing_width, trailing_bits}
use Rattle.bitio.proofs.UnpackLaws.{length-bits, length-unpack, unpack-append}
use Rattle.emittable.specs.PutFields.{put, flag_fits_or, uvlc_fits_or}
use Rattle.emittable.specs.PutSequence.{put_opening, put_points, put_coding, put_sequence}
use Rattle.header.specs.SequencePoints.{delay_bits, point_count}
use Rattle.header.specs.Sequence.{Sequence}
use Rattle.emittable.specs.Emittable.{timing_fits, opening_fits, emittable}
use Rattle.emit.specs.Emit.{pack, trailed, sequence_bytes}
use Rattle.emit.specs.code.WroteBits.{Added, WroteBits}
use Rattle.header.specs.declared.seq_header.TimingInfo.{TimingInfo}
use Rattle.header.specs.declared.seq_header.Opening.{Opening}
use Rattle.bitio.proofs.ParseLaws.{and_both}
use Rattle.emittable.proofs.BackSequence.{opening_delay, opening_count}
use Rattle.emit.proofs.EmitLaws.{size-widths, coding-size, emittable-puts}
use Rattle.emit.proofs.PackLaws.{pack-unpack}
use Rattle.emit.proofs.WroteLaws.{wrote_then}

-- ---- widths of emittable fields

uvlc-width : (on : Bool) (v : ℕ) → uvlc_fits_or on v ≡ true → v < 2 ^ 32
unfolding uvlc_fits_or
uvlc-width true v g = let h = ltb-true v (2 ^ 32 - 1) g in omega arith
uvlc-width false v g = let e = eqb-true v 0 g in omega arith

timing-ticks : (full : Bool) (t : TimingInfo) → timing_fits full t ≡ true → t.num_ticks_per_picture_minus_1 < 2 ^ 32
unfolding timing_fits
timing-ticks full t g =
    let (g, g5) = and_both _ _ g in
    let (g, g4) = and_both _ _ g in
    let (g, g3) = and_both _ _ g in
    let (g1, g2) = and_both (flag_fits_or full false t.timing_info_present) _ g in
    uvlc-width t.equal_picture_interval t.num_ticks_per_picture_minus_1 g5

opening-ticks : (o : Opening) → opening_fits o ≡ true → o.timing.num_ticks_per_picture_minus_1 < 2 ^ 32
unfolding opening_fits
opening-ticks o g =
    let (g, g5) = and_both _ _ g in
    let (g, g4) = and_both _ _ g in
    let (g, g3) = and_both _ _ g in
    let (g1, g2) = and_both (leb o.seq_profile 2) _ g in
    timing-ticks (not o.reduced_still_picture_header) o.timing g2

-- what the writers ask of the fields
pub record Widths (q : Sequence) : Type 0 where
  pub ticks : q.header.opening.timing.num_ticks_per_picture_minus_1 < 2 ^ 32
  pub delay : delay_bits q.header.opening ≤ 32
  pub count : point_count q.header.opening ≤ 32
  pub wide : q.header.coding.size.frame_width_bits_minus_1 ≤ 15
  pub high : q.header.coding.size.frame_height_bits_minus_1 ≤ 15

pub widths : (q : Sequence) → emittable q ≡ true → Widths q
unfolding emittable
widths q g =
    let (g, g4) = and_both _ _ g in
    let (g, g3) = and_both _ _ g in
    let (g1, g2) = and_both (opening_fits q.header.opening) (eqb (length q.points) (point_count q.header.opening)) g in
    let z = size-widths q.header.coding.size (coding-size q.header.opening.seq_profile (not q.header.opening.reduced_still_picture_header) q.header.coding g4) in
    record {
      ticks = opening-ticks q.header.opening g1;
      delay = opening_delay q.header.opening g1;
      count = opening_count q.header.opening g1;
      wide = omega (arith, z.0);
      high = omega (arith, z.1);
    }

-- ---- the payload

-- the memory is zeros at first
pub zeros_bytes : (n : ℕ) → Bytes (replicate n 0)
zeros_bytes zero i = lit< tt
zeros_bytes (suc n) zero = lit< tt
zeros_bytes (suc n) (suc i) = zeros_bytes n i

-- the bits of the first n bytes
take-unpack : (n : ℕ) (s : List ℕ) → n ≤ length s → take (8 * n) (unpack s) ≡ unpack (take n s)
take-unpack n s h =
    let t = length-take-le n s h in
    ap (take (8 * n)) (ap unpack (sym (take-append-drop n s)) ∙ unpack-append (take n s) (drop n s))
    ∙ take_at (unpack (take n s)) (unpack (drop n s)) (8 * n) (length-unpack (take n s) ∙ omega arith)

-- the first n of bytes are bytes
take-bytes : (n : ℕ) (s : List ℕ) → Bytes s → Bytes (take n s)
take-bytes n s b i =
    elim (dec_lt i n) [
      | yes l ↦ rw (get_or-take n s i 0 l) (b i)
      | no l ↦
          let t = length-take n s in
          let e : get_or (take n s) i 0 ≡ 0 = get_or-eq_default (take n s) 0 (omega arith) in
          omega arith
    ]

module _ (q : Sequence) (g : emittable q ≡ true) {d e f : List ℕ} {p r : ℕ} (size : length d ≡ 400) (a : WroteBits d 0 e p (put_sequence q))
    (b : WroteBits e p f r (put (trailing_width p) (trailing_bits p))) (zeros : Bytes d) where
  fields : Added d 0 e p (put_sequence q [])
  fields = a.added (omega (arith, (emittable-puts q g).most))

  trailing : put (trailing_width p) (trailing_bits p) [] ≡ bits_of (trailing_width p) (trailing_bits p)
  unfolding put
  trailing = append-nil (bits_of (trailing_width p) (trailing_bits p))

  -- the place behind the fields
  fields-end : p ≡ length (put_sequence q [])
  fields-end = omega (arith, fields.place)

  both : Added e p f r (bits_of (trailing_width p) (trailing_bits p))
  both =
      let n = length-bits (trailing_width p) (trailing_bits p) in
      rw trailing at (b.added (rw trailing (omega (arith, (emittable-puts q g).most, fields-end, fields.len))))

  all-bits : take r (unpack f) ≡ trailed (put_sequence q [])
  unfolding trailed
  all-bits =
      both.adds ∙ ap (λ x. x ++ bits_of (trailing_width p) (trailing_bits p)) fields.adds
      ∙ ap (λ j. put_sequence q [] ++ bits_of (trailing_width j) (trailing_bits j)) fields-end

  all-length : r ≡ p + (8 - p % 8)
  all-length = both.place ∙ ap (λ n. p + n) (length-bits (trailing_width p) (trailing_bits p))

  -- in whole bytes
  whole : r ≡ 8 * (r / 8)
  whole = let n = all-length in omega arith

  within : r / 8 ≤ length f
  within = omega (arith, (emittable-puts q g).most, fields-end, fields.len, both.len, all-length)

  -- the payload that the fields have stands at the start
  pub payload-front : take (r / 8) f ≡ sequence_bytes q
  unfolding sequence_bytes
  payload-front =
      sym (pack-unpack (take (r / 8) f) (take-bytes (r / 8) f (both.bytes (fields.bytes zeros))))
      ∙ ap pack (sym (take-unpack (r / 8) f within) ∙ ap (λ j. take j (unpack f)) (sym whole) ∙ all-bits)

  pub payload-size : r / 8 ≡ length (sequence_bytes q)
  payload-size = sym (length-take-le (r / 8) f within) ∙ ap length payload-front

-- the sections, one after the other
pub sections : (q : Sequence) {d e f g : List ℕ} {p₁ p₂ p₃ : ℕ} → WroteBits d 0 e p₁ (put_opening q.header.opening) → WroteBits e p₁ f p₂ (put_points q.header.opening q.points)
    → WroteBits f p₂ g p₃ (put_coding q.header.opening.seq_profile (not q.header.opening.reduced_still_picture_header) q.header.coding) → WroteBits d 0 g p₃ (put_sequence q)
unfolding put_sequence
sections q a b c = wrote_then (wrote_then a b) c

-- Laws of emitted sequence headers: read back, emitted again, and timed.
use mathlib.Core.Path.{◌≡◌, sym, ap, ◌∙◌}
use Prim.Native.Nat.{ℕ, ◌+◌, ◌*◌, ◌-◌, ◌%◌, ◌^◌, ◌<◌, ◌≤◌}
use native.Mathlib.Omega.{arith}
use mathlib.Core.List.{List, [], ◌++◌, append_assoc}
use mathlib.Core.Bool.{Bool, true, not}
use lib.Dec.{eqb}
use lib.ListN.{length, length-append}
use borrow.Author.Tests.{ltb-true, eqb-true}
use Rattle.bitio.specs.Limits.{limit, limited}
use Rattle.bitio.specs.Parse.{accepted}
use Rattle.bitio.specs.Bits.{Reading, fails, reads}
use Rattle.bitio.specs.Write.{bits_of, unpack, trailing_width, trailing_bits}
use Rattle.bitio.proofs.EveryLaws.{every_append}
use Rattle.bitio.proofs.SeesLaws.{Sees}
use Rattle.bitio.proofs.UnpackLaws.{length-bits, unpack-append}
use Rattle.bitio.specs.Fields.{answer_of}
use Rattle.emittable.specs.PutFields.{fits}
use Rattle.header.specs.SequencePoints.{point_count}
use Rattle.header.specs.Sequence.{Sequence, read_sequence, parse_sequence}
use Rattle.emittable.specs.PutSequence.{put_sequence}
use Rattle.emittable.specs.Emittable.{opening_fits, size_fits, coding_fits, emittable}
use Rattle.emit.specs.Emit.{trailed, sequence_bytes}
use Rattle.header.specs.declared.seq_header.FrameSize.{FrameSize}
use Rattle.header.specs.declared.seq_header.Coding.{Coding}
use Rattle.emit.proofs.PackLaws.{AreBits, are-bits, unpack-pack, length-pack}
use Rattle.emit.proofs.PutLaws.{Puts, sequence-puts}
use Rattle.header.proofs.LimitedLaws.{within-limit}
use Rattle.bitio.proofs.ParseLaws.{and_both}
use Rattle.emittable.proofs.BackSequence.{opening_delay, opening_count, sequence-back}
use Rattle.emit.proofs.FormFields.{holds}
use Rattle.emit.proofs.FormSequence.{sequence-form}

-- ---- the bits of emittable fields

four : (n : ℕ) → fits 4 n ≡ true → n < 16
unfolding fits
four n g = ltb-true n 16 g

pub size-widths : (z : FrameSize) → size_fits z ≡ true → (z.frame_width_bits_minus_1 < 16) × (z.frame_height_bits_minus_1 < 16)
unfolding size_fits
size-widths z g =
    let (g, g4) = and_both _ _ g in
    let (g, g3) = and_both _ _ g in
    let (g1, g2) = and_both (fits 4 z.frame_width_bits_minus_1) (fits 4 z.frame_height_bits_minus_1) g in
    (four z.frame_width_bits_minus_1 g1, four z.frame_height_bits_minus_1 g2)

pub coding-size : (profile : ℕ) (full : Bool) (c : Coding) → coding_fits profile full c ≡ true → size_fits c.size ≡ true
unfolding coding_fits
coding-size profile full c g =
    let (g, g6) = and_both _ _ g in
    let (g, g5) = and_both _ _ g in
    let (g, g4) = and_both _ _ g in
    let (g, g3) = and_both _ _ g in
    let (g1, g2) = and_both (size_fits c.size) _ g in
    g1

-- the header's bits stand before what follows, at most 3141
pub emittable-puts : (q : Sequence) → emittable q ≡ true → Puts 3141 (put_sequence q)
unfolding emittable
emittable-puts q g =
    let (g, g4) = and_both _ _ g in
    let (g, g3) = and_both _ _ g in
    let (g1, g2) = and_both (opening_fits q.header.opening) (eqb (length q.points) (point_count q.header.opening)) g in
    let n = eqb-true (length q.points) (point_count q.header.opening) g2 in
    let m = opening_count q.header.opening g1 in
    let z = size-widths q.header.coding.size (coding-size q.header.opening.seq_profile (not q.header.opening.reduced_still_picture_header) q.header.coding g4) in
    sequence-puts q (opening_delay q.header.opening g1) (omega arith) z.0 z.1

-- ---- trailing bits

-- whole bytes
length-trailed : (l : List ℕ) → length (trailed l) ≡ length l + (8 - length l % 8)
unfolding trailed
length-trailed l = length-append l (bits_of (trailing_width (length l)) (trailing_bits (length l))) ∙ ap (λ n. length l + n) (length-bits (trailing_width (length l)) (trailing_bits (length l)))

are-trailed : {l : List ℕ} → AreBits l → AreBits (trailed l)
unfolding trailed
are-trailed {l} k = every_append k (are-bits (trailing_width (length l)) (trailing_bits (length l)))

-- ---- the payload

module _ (q : Sequence) (g : emittable q ≡ true) where
  -- its bits are the fields', and the trailing bits
  pub payload-bits : unpack (sequence_bytes q) ≡ trailed (put_sequence q [])
  unfolding sequence_bytes
  payload-bits =
      let n = length-trailed (put_sequence q []) in
      unpack-pack (are-trailed (emittable-puts q g).bits) (omega arith)

  -- it is not long
  pub payload-length : length (sequence_bytes q) ≤ 393
  unfolding sequence_bytes
  payload-length =
      let n = length-trailed (put_sequence q []) in
      omega (arith, length-pack (trailed (put_sequence q [])), (emittable-puts q g).most)

  -- the bits of the payload with any bytes behind
  payload-sees : (rest : List ℕ) → 8 * length (sequence_bytes q ++ rest) < 2 ^ 64
      → Sees (sequence_bytes q ++ rest) 0 (put_sequence q (bits_of (trailing_width (length (put_sequence q []))) (trailing_bits (length (put_sequence q []))) ++ unpack rest))
  unfolding trailed
  payload-sees rest small =
      let l = put_sequence q [] in
      let t = bits_of (trailing_width (length l)) (trailing_bits (length l)) in
      record {
        fits = omega arith;
        small = small;
        rest = unpack-append (sequence_bytes q) rest ∙ ap (λ x. x ++ unpack rest) payload-bits ∙ append_assoc l t (unpack rest) ∙ sym ((emittable-puts q g).apart (t ++ unpack rest));
      }

  -- reading what is emitted returns the fields, whatever bytes stand behind
  pub parse-emitted : (rest : List ℕ) → 8 * length (sequence_bytes q ++ rest) < 2 ^ 64 → parse_sequence (sequence_bytes q ++ rest) ≡ accepted q
  unfolding parse_sequence
  parse-emitted rest small = ap answer_of (sequence-back q _ g (payload-sees rest small)).eq

  -- README claims it: and so does parse_sequence_header, within the limit
  pub emitted-back : (rest : List ℕ) → length (sequence_bytes q ++ rest) ≤ limit → limited (sequence_bytes q ++ rest) (parse_sequence (sequence_bytes q ++ rest)) ≡ accepted q
  emitted-back rest h = within-limit _ _ h ∙ parse-emitted rest (omega arith)

-- ---- what is read

-- what was accepted was read up to some position
ended : (q : Sequence) (x : Reading Sequence) → answer_of x ≡ accepted q → (e : ℕ) × (x ≡ reads q e)
ended q (fails k) e = let z : ◌≡◌ {A = ℕ} 0 1 = cc in absurd (omega arith)
ended q (reads a p) e = (p, cc)

-- fields that were read are emittable
pub parse-emittable : (s : List ℕ) (q : Sequence) → parse_sequence s ≡ accepted q → emittable q ≡ true
unfolding parse_sequence
parse-emittable s q e = let (p, r) = ended q (read_sequence s) e in (holds (sequence-form s 0) q p r).good

-- docs/DIFFERENCES.md claims it: emittable fields are those that some payload reads as
pub emittable-exact : (q : Sequence) → (emittable q ≡ true → (s : List ℕ) × (parse_sequence s ≡ accepted q)) × ((s : List ℕ) → parse_sequence s ≡ accepted q → emittable q ≡ true)
emittable-exact q =
    (λ g. (sequence_bytes q ++ [], parse-emitted q g [] (omega (arith, length-append (sequence_bytes q) [], payload-length q g))), λ s. parse-emittable s q)

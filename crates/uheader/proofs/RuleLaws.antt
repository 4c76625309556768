-- Where a scan is the same by the Rust's way to take a signed number and by AV1's.
use Prim.Native.Nat.{ℕ, ◌<◌}
use mathlib.Core.Path.{◌≡◌, ap}
use mathlib.Core.List.{List}
use mathlib.Core.Bool.{Bool, true, ◌&&◌, cond as pick}
use lib.Dec.{eqb}
use Rattle.bitio.specs.Bits.{Reading, reads, and_then, read_bits}
use Rattle.bitio.specs.Every.{Every}
use Rattle.bitio.proofs.ParseLaws.{pick-both}
use Rattle.syntax.specs.Syntax.{run}
use Rattle.header.specs.declared.seq_header.Coding.{Coding}
use Rattle.header.specs.declared.seq_header.SequenceHeader.{SequenceHeader}
use Rattle.header.proofs.ReadLaws.{Holds, then-holds, then-any, bits-lt}
use Rattle.frame.specs.Frame.{primary_none}
use Rattle.frame.specs.declared.frame_header.FrameFront.{FrameFront}
use Rattle.frame.proofs.FrameLaws.{Fits, field_fits}
use Rattle.frame.proofs.FrameSpecLaws.{then_same}
use Rattle.geometry.specs.Tiles.{tile_info}
use Rattle.geometry.specs.declared.slots.RefSlot.{RefSlot}
use Rattle.params.specs.Quantization.{read_delta_q, quantization_params, Ranged}
use Rattle.params.specs.Segmentation.{segmentation_params}
use Rattle.params.specs.Lossless.{sign_magnitude, twos_complement, coded_lossless}
use Rattle.params.specs.declared.quant.Quantizer.{Quantizer}
use Rattle.params.proofs.SignLaws.{NoLoneSign, Alike, rules-agree}
use Rattle.uheader.specs.Shape.{frame_shape}
use Rattle.uheader.specs.Tail.{color, frame_tail}
use Rattle.uheader.specs.Scan.{open_scan, scan_rest, scan_behind, scan_of, scan_by}
use Rattle.uheader.specs.declared.shape.Shape.{Shape}
use Rattle.uheader.specs.declared.scan.Rest.{Rest}

-- ---- each number of a quantizer is within its bits

delta-lt : (s : List ℕ) (p : ℕ) (on : Bool) → Holds (λ v. v < 128) (run (read_delta_q on) s p)
unfolding run read_delta_q
delta-lt s p on =
    then-any (λ v. v < 128) (pick on (read_bits s p 1) (reads 0 p)) _ (λ coded p.
    then-holds (Fits (eqb coded 1) 7) (λ v. v < 128) (pick (eqb coded 1) (read_bits s p 7) (reads 0 p)) _ (field_fits s p (eqb coded 1) 7) (λ v p h. h.width))

pub quant-ranged : (s : List ℕ) (p : ℕ) (color apart : Bool) → Holds Ranged (run (quantization_params color apart) s p)
unfolding run quantization_params
quant-ranged s p color apart =
    then-holds (λ v. v < 256) Ranged (read_bits s p 8) _ (bits-lt s p 8) (λ base p a.
    then-holds (λ v. v < 128) Ranged (run (read_delta_q true) s p) _ (delta-lt s p true) (λ y-dc p b.
    then-any Ranged (pick (color && apart) (read_bits s p 1) (reads 0 p)) _ (λ diff p.
    then-holds (λ v. v < 128) Ranged (run (read_delta_q color) s p) _ (delta-lt s p color) (λ u-dc p c.
    then-holds (λ v. v < 128) Ranged (run (read_delta_q color) s p) _ (delta-lt s p color) (λ u-ac p d.
    then-holds (λ v. v < 128) Ranged (run (read_delta_q (eqb diff 1)) s p) _ (delta-lt s p (eqb diff 1)) (λ v-dc p e.
    then-holds (λ v. v < 128) Ranged (run (read_delta_q (eqb diff 1)) s p) _ (delta-lt s p (eqb diff 1)) (λ v-ac p f.
    then-any Ranged (read_bits s p 1) _ (λ matrix p.
    then-any Ranged (pick (eqb matrix 1) (read_bits s p 4) (reads 0 p)) _ (λ qm-y p.
    then-any Ranged (pick (eqb matrix 1) (read_bits s p 4) (reads 0 p)) _ (λ qm-u p.
    then-any Ranged (pick (eqb matrix 1 && apart) (read_bits s p 4) (reads 0 p)) _ (λ qm-v p.
    record {
      base = a;
      y-dc = b;
      u-dc = c;
      u-ac = d;
      v-dc = pick-both (λ v. v < 128) (eqb diff 1) e c;
      v-ac = pick-both (λ v. v < 128) (eqb diff 1) f d;
    })))))))))))

-- ---- two rules

module _ (rule rule' : ℕ → ℕ → ℕ) (h : SequenceHeader) (n : ℕ) (slots : List RefSlot) (s : List ℕ) where
  abbrev c : Coding
  c = h.coding

  -- both judge alike the quantizer and the segments that stand behind this frame's front and shape
  abbrev pub JudgeAlike : FrameFront → ℕ → Type 0
  JudgeAlike x r =
      (y : Quantizer) (t : ℕ) → run (quantization_params (color c) c.sampling.separate_uv_delta_q) s r ≡ reads y t
      → (alts : List ℕ) (u : ℕ) → run (segmentation_params (eqb x.modes.primary_ref_frame primary_none)) s t ≡ reads alts u
      → coded_lossless rule y alts ≡ coded_lossless rule' y alts

  tail-same : (x : FrameFront) (z : Shape) (r : ℕ) → JudgeAlike x r → run (frame_tail rule c x z slots) s r ≡ run (frame_tail rule' c x z slots) s r
  unfolding run frame_tail
  tail-same x z r alike =
      then_same (run (quantization_params (color c) c.sampling.separate_uv_delta_q) s r) _ _ (λ y t g.
      then_same (run (segmentation_params (eqb x.modes.primary_ref_frame primary_none)) s t) _ _ (λ alts u h.
      rw (alike y t g alts u h)))

  -- then the scans are the same
  pub rules-same : ((x : FrameFront) (p : ℕ) → open_scan h s ≡ reads x p
      → (z : Shape) (q : ℕ) → run (frame_shape h n slots x) s p ≡ reads z q
      → (t : Unit {0}) (r : ℕ) → run (tile_info z.size c.tools.use_128x128_superblock) s q ≡ reads t r → JudgeAlike x r)
      → scan_by rule h n slots s ≡ scan_by rule' h n slots s
  unfolding run scan_by scan_behind scan_rest
  rules-same alike =
      then_same (open_scan h s) _ _ (λ x p g.
      ap (λ (y : Reading Rest). and_then y (λ r end. reads (scan_of x r p end) end))
      (then_same (run (frame_shape h n slots x) s p) _ _ (λ z q k.
      then_same (run (tile_info z.size c.tools.use_128x128_superblock) s q) _ _ (λ t r l.
      rw (tail-same x z r (alike x p g z q k t r l))))))

-- ---- the Rust's and AV1's

module _ (h : SequenceHeader) (n : ℕ) (slots : List RefSlot) (s : List ℕ) where
  -- no delta is a sign alone, and no segment's index goes below a base above 0
  abbrev pub Plain : FrameFront → ℕ → Type 0
  Plain x r =
      (y : Quantizer) (t : ℕ) → run (quantization_params (color h.coding) h.coding.sampling.separate_uv_delta_q) s r ≡ reads y t
      → (alts : List ℕ) (u : ℕ) → run (segmentation_params (eqb x.modes.primary_ref_frame primary_none)) s t ≡ reads alts u
      → NoLoneSign y × Every (Alike y.base_q_idx) alts

  pub spec-scan : ((x : FrameFront) (p : ℕ) → open_scan h s ≡ reads x p
      → (z : Shape) (q : ℕ) → run (frame_shape h n slots x) s p ≡ reads z q
      → (t : Unit {0}) (r : ℕ) → run (tile_info z.size h.coding.tools.use_128x128_superblock) s q ≡ reads t r → Plain x r)
      → scan_by sign_magnitude h n slots s ≡ scan_by twos_complement h n slots s
  spec-scan plain =
      rules-same sign_magnitude twos_complement h n slots s (λ x p g z q k t r l y v a alts u b.
      let ranged : Ranged y = rw a at (quant-ranged s r (color h.coding) h.coding.sampling.separate_uv_delta_q) in
      let same = plain x p g z q k t r l y v a alts u b in
      rules-agree y ranged same.0 same.1)

-- After a shown key the slots are alike, whatever they were; and where a scan ends.
use Prim.Native.Nat.{ℕ, zero, suc, ◌-◌, ◌/◌, ◌%◌, ◌^◌, ◌≤◌}
use native.Mathlib.Omega.{arith}
use native.Mathlib.Nat.{pow-suc}
use mathlib.Core.Path.{◌≡◌, refl, sym, ap, ◌∙◌}
use mathlib.Core.List.{List, [], ◌∷◌}
use mathlib.Core.Bool.{true, cond as pick}
use lib.Dec.{eqb}
use lib.ListN.{length, replicate}
use lib.Pow.{pow_pos}
use Rattle.bitio.specs.Parse.{accepted}
use Rattle.bitio.specs.Bits.{reads, bits_in}
use Rattle.syntax.specs.Syntax.{run}
use Rattle.syntax.proofs.EndLaws.{Ends, ends}
use Rattle.header.specs.declared.seq_header.SequenceHeader.{SequenceHeader}
use Rattle.frame.specs.FrameType.{is_intra}
use Rattle.frame.specs.declared.frame_header.FrameType.TheVariants.{Key}
use Rattle.frame.specs.Frame.{all_slots, refresh_flags}
use Rattle.frame.specs.Refresh.{refresh}
use Rattle.frame.specs.declared.frame_header.FrameFront.{FrameFront}
use Rattle.geometry.specs.Size.{frame_geometry}
use Rattle.geometry.specs.declared.slots.RefSlot.{RefSlot}
use Rattle.params.specs.Lossless.{sign_magnitude}
use Rattle.params.specs.SkipMode.{skip_mode_params}
use Rattle.uheader.specs.Shape.{frame_shape}
use Rattle.uheader.specs.Tail.{motion_params, frame_tail}
use Rattle.uheader.specs.Scan.{scan_front, scan_rest, scan_behind, scan_by, scan_header, ref_slot_of, slots_after}
use Rattle.uheader.specs.declared.scan.HeaderScan.{HeaderScan}
use Rattle.uheader.proofs.ReadingLaws.{Parts, parts}
use Rattle.uheader.proofs.GivesLaws.{gives}
use Rattle.uheader.proofs.AgreeLaws.{flags-read}

-- every slot is refreshed
fill : {A : Type 0} (n flags : ℕ) (new : A) (l : List A) → flags ≡ 2 ^ n - 1 → length l ≡ n → refresh flags new l ≡ replicate n new
unfolding refresh
fill zero flags new [] f e = refl
fill zero flags new (x ∷ l) f e = absurd (omega arith)
fill (suc n) flags new [] f e = absurd (omega arith)
fill (suc n) flags new (x ∷ l) f e =
    let odd : flags % 2 ≡ 1 = omega (arith, pow-suc 2 n, pow_pos n) in
    let half : flags / 2 ≡ 2 ^ n - 1 = omega (arith, pow-suc 2 n, pow_pos n) in
    ap (λ b. pick (eqb b 1) new x ∷ refresh (flags / 2) new l) odd ∙ ap (λ t. new ∷ t) (fill n (flags / 2) new l half (omega arith))

module _ (h : SequenceHeader) (n : ℕ) (s : List ℕ) where
  -- an intra frame looks at no slot
  intra-rest : (rule : ℕ → ℕ → ℕ) (slots slots' : List RefSlot) (x : FrameFront) (p : ℕ) → is_intra x.start.frame_type ≡ true
      → run (scan_rest rule h n slots x) s p ≡ run (scan_rest rule h n slots' x) s p
  unfolding run scan_rest frame_shape frame_geometry frame_tail motion_params skip_mode_params
  intra-rest rule slots slots' x p e = rw e

  module _ (slots : List RefSlot) (x : HeaderScan) (e : scan_header h n slots s ≡ accepted x) where
    abbrev ps : Parts h n slots s x
    ps = parts h n slots s x e

    -- the scan of an intra frame is the same, whatever the slots were
    pub intra-same : (slots' : List RefSlot) → is_intra x.frame.frame_type ≡ true → scan_header h n slots' s ≡ accepted x
    unfolding scan_header scan_by scan_behind
    intra-same slots' intra =
        let i : x.frame.frame_type ≡ ps.front.start.frame_type = ap (λ (y : HeaderScan). y.frame.frame_type) ps.same in
        let r = intra-rest sign_magnitude slots' slots ps.front x.removal_insert_pos (ap is_intra (sym i) ∙ intra) ∙ ps.rest_read in
        rw (ps.opened, r) (ap accepted (sym ps.same))

    -- a shown key refreshes all slots
    pub key-flags : x.frame.frame_type ≡ Key → x.frame.show_frame ≡ true → x.frame.refresh_frame_flags ≡ 255
    unfolding refresh_flags
    key-flags k shown =
        let f = ps.front.start in
        let t : f.frame_type ≡ Key = sym (ap (λ (y : HeaderScan). y.frame.frame_type) ps.same) ∙ k in
        let v : f.show_frame ≡ true = sym (ap (λ (y : HeaderScan). y.frame.show_frame) ps.same) ∙ shown in
        let all : all_slots f.frame_type f.show_frame ≡ true = rw (t, v) in
        flags-read h n slots s ps.front _ ps.rest _ ps.rest_read (λ r flags.
        ap (λ (y : HeaderScan). y.frame.refresh_frame_flags) ps.same
        ∙ gives (λ v. v ≡ 255) (refresh_flags h.opening.model n f) (λ last flags. ap (λ b. pick b 255 flags) all) s _ flags)

    -- so all eight are alike
    pub key-alike : x.frame.frame_type ≡ Key → x.frame.show_frame ≡ true → length slots ≡ 8
        → slots_after slots (accepted x) ≡ replicate 8 (ref_slot_of x.frame x.size)
    key-alike k shown l = fill 8 x.frame.refresh_frame_flags _ slots (key-flags k shown) l

    -- the place of the removal flag lies before the end, and that within the payload
    pub ends-within : (x.removal_insert_pos ≤ x.end_pos) × (x.end_pos ≤ bits_in (length s))
    ends-within =
        let a : Ends 0 (bits_in (length s)) (reads ps.front x.removal_insert_pos) = rw ps.front_read at (ends (scan_front h) s 0 (omega arith)) in
        rw ps.rest_read at (ends (scan_rest sign_magnitude h n slots ps.front) s x.removal_insert_pos a.1)

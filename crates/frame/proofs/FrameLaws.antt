-- What a frame header that was read says of itself, under any sequence header and whichever removal times there are.
use Prim.Native.Nat.{ℕ, ◌+◌, ◌^◌, ◌<◌}
use native.Mathlib.Omega.{arith}
use mathlib.Core.Path.{◌≡◌, refl, subst, ap, ◌∙◌}
use mathlib.Core.List.{List}
use mathlib.Core.Bool.{Bool, true, false, not, ◌&&◌, ◌||◌, cond as pick}
use lib.Dec.{eqb}
use lib.Pow.{pow_pos}
use Rattle.bitio.specs.Parse.{accepted}
use Rattle.bitio.specs.Bits.{Reading, fails, reads, and_then, read_bits}
use Rattle.bitio.proofs.ParseLaws.{pick-both}
use Rattle.syntax.specs.Syntax.{run}
use Rattle.bitio.specs.Fields.{answer_of}
use Rattle.header.specs.Sequence.{Sequence}
use Rattle.header.specs.Support.{has_point_info}
use Rattle.header.specs.declared.seq_header.Opening.{Opening}
use Rattle.header.specs.declared.seq_header.OperatingPoint.{OperatingPoint}
use Rattle.header.specs.declared.seq_header.SequenceHeader.{SequenceHeader}
use Rattle.header.proofs.ReadLaws.{Holds, then-holds, then-any, bits-lt}
use Rattle.frame.specs.Frame.{all_slots, show_existing, frame_start, frame_modes, frame_front, buffer_removal, refresh_flags, frame_info, frame_bits, frame_header, modelled, parse_frame, removals}
use Rattle.frame.specs.FrameType.{frame_type_of, is_key}
use Rattle.frame.specs.declared.frame_header.FrameStart.{FrameStart}
use Rattle.frame.specs.declared.frame_header.FrameFront.{FrameFront}
use Rattle.frame.specs.declared.frame_header.FrameInfo.{FrameInfo}
use Rattle.frame.specs.declared.frame_header.FrameHeaderInfo.{FrameHeaderInfo}
use Rattle.frame.specs.declared.frame_header.FrameHeaderInfo.TheVariants.{Existing, Frame}

-- what holds of a reading holds of its answer
pub answered : {A : Type 0} (P : A → Type 0) (x : Reading A) {a : A} → Holds P x → answer_of x ≡ accepted a → P a
answered P (fails k) h e = let z : ◌≡◌ {A = ℕ} 0 1 = cc in absurd (omega arith)
answered P (reads b p) h e = subst P (cc) h

-- ---- fields

-- a field fits its width, and is 0 where it is not in the bits
pub record Fits (on : Bool) (n v : ℕ) : Type 0 where
  pub width : v < 2 ^ n
  pub off : on ≡ false → v ≡ 0

pub field_fits : (s : List ℕ) (p : ℕ) (on : Bool) (n : ℕ) → Holds (Fits on n) (pick on (read_bits s p n) (reads 0 p))
field_fits s p true n = by-reading (read_bits s p n) (bits-lt s p n)
  where
    by-reading : (x : Reading ℕ) → Holds (λ v. v < 2 ^ n) x → Holds (Fits true n) x
    by-reading (fails k) h = tt
    by-reading (reads v q) h = record { width = h; off = λ e. let z : ◌≡◌ {A = ℕ} 0 1 = cc in absurd (omega arith) }
field_fits s p false n = record { width = pow_pos n; off = λ e. refl }

-- ---- the sections

-- what the first fields say of each other
pub record StartIs (f : FrameStart) : Type 0 where
  pub showable : f.show_frame ≡ true → f.showable_frame ≡ not (is_key f.frame_type)

-- what a frame's fields say of each other
pub record FrameIs (f : FrameInfo) : Type 0 where
  pub showable : f.show_frame ≡ true → f.showable_frame ≡ not (is_key f.frame_type)
  pub flags : f.refresh_frame_flags < 256

-- either kind of frame header
abbrev pub HeaderIs : FrameHeaderInfo → Type 0
HeaderIs (Existing slot) = slot < 8
HeaderIs (Frame f) = FrameIs f

-- a shown frame has no bit that says whether it is showable
shown-is : (shown showable : ℕ) (other : Bool) → Fits (not (eqb shown 1)) 1 showable → eqb shown 1 ≡ true → (eqb shown 1 && other) || eqb showable 1 ≡ other
shown-is shown showable other h e = rw (e, h.off (ap not e)) (by-other other)
  where
    by-other : (b : Bool) → b || false ≡ b
    by-other true = refl
    by-other false = refl

-- the first fields that are read are such
pub start-holds : (s : List ℕ) (p : ℕ) (strict : Bool) (o : Opening) → Holds StartIs (run (frame_start strict o) s p)
unfolding run frame_start
start-holds s p strict o =
    then-any StartIs (read_bits s p 2) _ (λ type p.
    then-any StartIs (read_bits s p 1) _ (λ shown p.
    pick-both (Holds StartIs) (strict && (eqb shown 1 && has_point_info o)) tt (
    then-any StartIs (pick (eqb shown 1 && has_point_info o) (read_bits s p (o.model.frame_presentation_time_length_minus_1 + 1)) (reads 0 p)) _ (λ time p.
    then-holds (Fits (not (eqb shown 1)) 1) StartIs (pick (not (eqb shown 1)) (read_bits s p 1) (reads 0 p)) _ (field_fits s p (not (eqb shown 1)) 1) (λ showable p e.
    then-any StartIs (pick (not (all_slots (frame_type_of type) (eqb shown 1))) (read_bits s p 1) (reads 0 p)) _ (λ resilient p.
    record { showable = shown-is shown showable (not (is_key (frame_type_of type))) e }))))))

-- and so are they with what follows them
pub front-holds : (s : List ℕ) (p : ℕ) (strict : Bool) (h : SequenceHeader) → Holds (λ x. StartIs x.start) (run (frame_front strict h) s p)
unfolding run frame_front
front-holds s p strict h =
    then-holds StartIs (λ (x : FrameFront). StartIs x.start) (run (frame_start strict h.opening) s p) _ (start-holds s p strict h.opening) (λ f p i.
    then-any (λ (x : FrameFront). StartIs x.start) (run (frame_modes h.coding f) s p) _ (λ m p. i))

-- a slot that is read is below 8
pub slot-holds : (s : List ℕ) (p : ℕ) (point_info : Bool) → Holds HeaderIs (run (show_existing point_info) s p)
unfolding run show_existing
slot-holds s p point_info =
    then-holds (λ v. v < 8) HeaderIs (read_bits s p 3) _ (bits-lt s p 3) (λ slot p l.
    pick-both (Holds HeaderIs) point_info tt l)

module _ (s : List ℕ) (h : SequenceHeader) (n : ℕ) where
  -- refresh flags are below 256
  pub flags-hold : (p : ℕ) (f : FrameStart) → Holds (λ v. v < 256) (run (refresh_flags h.opening.model n f) s p)
  unfolding run refresh_flags
  flags-hold p f =
      then-any (λ v. v < 256) (run (buffer_removal h.opening.model n) s p) _ (λ last p.
      then-holds (Fits (not (all_slots f.frame_type f.show_frame)) 8) (λ v. v < 256) (pick (not (all_slots f.frame_type f.show_frame)) (read_bits s p 8) (reads 0 p)) _ (field_fits s p (not (all_slots f.frame_type f.show_frame)) 8) (λ flags p l.
      let most : 255 < 256 = omega arith in
      pick-both (λ v. v < 256) (all_slots f.frame_type f.show_frame) most l.width))

  -- a frame that is read is such
  pub info-holds : (p : ℕ) → Holds FrameIs (run (frame_info h n) s p)
  unfolding run frame_info
  info-holds p =
      then-holds (λ (x : FrameFront). StartIs x.start) FrameIs (run (frame_front true h) s p) _ (front-holds s p true h) (λ x p i.
      then-holds (λ v. v < 256) FrameIs (run (refresh_flags h.opening.model n x.start) s p) _ (flags-hold p x.start) (λ flags p l.
      record { showable = i.showable; flags = l }))

  -- and either kind of frame header, from its first bit on
  pub bits-hold : (p : ℕ) → Holds HeaderIs (run (frame_bits h n) s p)
  unfolding run frame_bits
  bits-hold p =
      then-any HeaderIs (read_bits s p 1) _ (λ existing p.
      then-holds HeaderIs HeaderIs (pick (eqb existing 1) (run (show_existing (has_point_info h.opening)) s p) (and_then (run (frame_info h n) s p) (λ f p. reads (Frame f) p))) _ (
      pick-both (Holds HeaderIs) (eqb existing 1) (slot-holds s p (has_point_info h.opening)) (
      then-holds FrameIs HeaderIs (run (frame_info h n) s p) _ (info-holds p) (λ f p i. i))) (λ x p i. i))

-- and what is read under a sequence header that is looked at first
pub header-holds : (has : OperatingPoint → Bool) (s : List ℕ) (q : Sequence) (p : ℕ) → Holds HeaderIs (frame_header has s p q)
unfolding frame_header
header-holds has s q p =
    pick-both (Holds HeaderIs) q.header.opening.reduced_still_picture_header tt (
    pick-both (Holds HeaderIs) q.header.coding.ids.frame_id_numbers_present tt (
    bits-hold s q.header (removals has q) p))

-- ---- the answers

-- a header that is neither reduced nor has frame ids
pub header-bits : (has : OperatingPoint → Bool) (s : List ℕ) (p : ℕ) (q : Sequence)
    → q.header.opening.reduced_still_picture_header ≡ false → q.header.coding.ids.frame_id_numbers_present ≡ false
    → frame_header has s p q ≡ run (frame_bits q.header (removals has q)) s p
unfolding frame_header
header-bits has s p q full ids =
    let x = run (frame_bits q.header (removals has q)) s p in
    ap (λ t. pick t (fails 17) (pick q.header.coding.ids.frame_id_numbers_present (fails 18) x)) full
    ∙ ap (λ t. pick t (fails 18) x) ids

module _ (q : Sequence) (s : List ℕ) where
  -- all of it together
  pub header_is : {x : FrameHeaderInfo} → parse_frame q s ≡ accepted x → HeaderIs x
  unfolding parse_frame
  header_is e = answered HeaderIs (frame_header modelled s 0 q) (header-holds modelled s q 0) e

  module _ {f : FrameInfo} (e : parse_frame q s ≡ accepted (Frame f)) where
    is : FrameIs f
    is = header_is e

    -- refresh flags are below 256
    pub flags-lt : f.refresh_frame_flags < 256
    flags-lt = is.flags

    -- a shown frame that is no key is showable
    pub shown-showable : f.show_frame ≡ true → is_key f.frame_type ≡ false → f.showable_frame ≡ true
    shown-showable h t = is.showable h ∙ ap not t

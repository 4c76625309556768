-- Where a frame header reads the same by 01's removal times and by AV1's own.
use Prim.Native.Nat.{ℕ, suc, ◌+◌, ◌<◌}
use native.Mathlib.Omega.{arith}
use mathlib.Core.Path.{◌≡◌, refl, ap, ◌∙◌}
use mathlib.Core.List.{List}
use mathlib.Core.Bool.{Bool, true, false, and-true, cond as pick}
use lib.Dec.{eqb}
use borrow.Author.Tests.{eqb-true, eqb-false}
use Rattle.bitio.specs.Bits.{Reading, fails, reads, and_then, read_bits}
use Rattle.bitio.specs.Every.{Every, nothing, also}
use Rattle.obu.specs.Unit.{count}
use Rattle.syntax.specs.Syntax.{field, read_over, run}
use Rattle.syntax.specs.Repeat.{times}
use Rattle.header.specs.Sequence.{Sequence}
use Rattle.header.proofs.ReadLaws.{bits-lt}
use Rattle.header.specs.Support.{has_point_info}
use Rattle.header.specs.declared.seq_header.OperatingPoint.{OperatingPoint}
use Rattle.header.specs.declared.seq_header.DecoderModelInfo.{DecoderModelInfo}
use Rattle.frame.specs.Frame.{modelled, layered, show_existing, frame_front, removals, buffer_removal, refresh_flags, frame_info, frame_bits, frame_header, read_frame, spec_frame}
use Rattle.frame.specs.code.RemovalFlag.{removal_flag}
use Rattle.frame.specs.declared.frame_header.FrameStart.{FrameStart}
use Rattle.frame.specs.declared.frame_header.FrameFront.{FrameFront}
use Rattle.frame.specs.declared.frame_header.FrameInfo.{FrameInfo}
use Rattle.frame.specs.declared.frame_header.FrameHeaderInfo.{FrameHeaderInfo}
use Rattle.frame.specs.declared.frame_header.FrameHeaderInfo.TheVariants.{Frame}

-- what follows is the same for whatever was read
pub then_same : {A B : Type 0} (x : Reading A) (k k' : A → ℕ → Reading B) → ((a : A) (p : ℕ) → x ≡ reads a p → k a p ≡ k' a p) → and_then x k ≡ and_then x k'
then_same (fails n) k k' f = refl
then_same (reads a p) k k' f = f a p refl

-- a choice is the same if its second part is, where it is chosen
pick_same : {A : Type 0} (t : Bool) (a b b' : A) → (t ≡ false → b ≡ b') → pick t a b ≡ pick t a b'
pick_same true a b b' f = refl
pick_same false a b b' f = f refl

-- or its first
pick_first : {A : Type 0} (t : Bool) (a a' b : A) → (t ≡ true → a ≡ a') → pick t a b ≡ pick t a' b
pick_first true a a' b f = f refl
pick_first false a a' b f = refl

-- the reading of buffer_removal_time_present_flag, at p
abbrev flag_at : List ℕ → ℕ → DecoderModelInfo → Reading ℕ
flag_at s p m = pick m.decoder_model_info_present (read_bits s p 1) (reads 0 p)

-- a flag that is not there is no 1
flag-absent : (p r : ℕ) → ◌≡◌ {A = Reading ℕ} (reads 0 p) (reads 1 r) → ⊥
flag-absent p r g = let z : ◌≡◌ {A = ℕ} 0 1 = cc in omega arith

-- a bit that is not 1 is 0
bit-zero : (s : List ℕ) (p v r : ℕ) → read_bits s p 1 ≡ reads v r → eqb v 1 ≡ false → v ≡ 0
bit-zero s p v r g e =
    let l : v < 2 = (rw g at (bits-lt s p 1)) in
    omega (arith, eqb-false v 1 e)

module _ (has has' : OperatingPoint → Bool) (s : List ℕ) where
  -- the same points have a time
  count_same : {xs : List OperatingPoint} → Every (λ x. has x ≡ has' x) xs → count has xs ≡ count has' xs
  unfolding count
  count_same nothing = refl
  count_same (also {a = x} {l = xs} e es) =
      ap (λ (b : Bool). pick b (suc (count has xs)) (count has xs)) e ∙ ap (λ (n : ℕ). pick (has' x) (suc n) n) (count_same es)

  module _ (q : Sequence) where
    abbrev m : DecoderModelInfo
    m = q.header.opening.model

    -- as many times wherever the flag is 1 at this position
    abbrev SameTimes : ℕ → Type 0
    SameTimes p = (r : ℕ) → flag_at s p m ≡ reads 1 r → removals has q ≡ removals has' q

    removal-same : (p : ℕ) → SameTimes p → run (buffer_removal m (removals has q)) s p ≡ run (buffer_removal m (removals has' q)) s p
    unfolding run buffer_removal
    removal-same p same =
        then_same (flag_at s p m) _ _ (λ present r g.
        ap (λ (n : ℕ). and_then (run (times n (field true (m.buffer_removal_time_length_minus_1 + 1) (λ time. read_over))) s r) (λ last p. reads last p))
        (pick_first (eqb present 1) _ _ 0 (λ t. same r (g ∙ ap (λ v. reads v r) (eqb-true present 1 t)))))

    flags-same : (p : ℕ) (f : FrameStart) → SameTimes p → run (refresh_flags m (removals has q) f) s p ≡ run (refresh_flags m (removals has' q) f) s p
    unfolding run refresh_flags
    flags-same p f same = rw (removal-same p same)

    -- so is a frame, if they are wherever its fields lead
    info-same : (p : ℕ) → ((x : FrameFront) (r : ℕ) → run (frame_front true q.header) s p ≡ reads x r → SameTimes r)
        → run (frame_info q.header (removals has q)) s p ≡ run (frame_info q.header (removals has' q)) s p
    unfolding run frame_info
    info-same p same =
        then_same (run (frame_front true q.header) s p) _ _ (λ x r g.
        rw (flags-same r x.start (same x r g)))

    -- and a header, if the frame behind its first bit is
    header-same : ((r : ℕ) → read_bits s 0 1 ≡ reads 0 r → run (frame_info q.header (removals has q)) s r ≡ run (frame_info q.header (removals has' q)) s r) → frame_header has s 0 q ≡ frame_header has' s 0 q
    unfolding run frame_header frame_bits
    header-same same =
        pick_same q.header.opening.reduced_still_picture_header _ _ _ (λ u.
        pick_same q.header.coding.ids.frame_id_numbers_present _ _ _ (λ u.
        then_same (read_bits s 0 1) _ _ (λ existing r g.
        ap (λ (y : Reading FrameHeaderInfo). and_then y (λ x p. reads x p))
        (pick_same (eqb existing 1) (run (show_existing (has_point_info q.header.opening)) s r) _ _ (λ e.
        ap (λ (y : Reading FrameInfo). and_then y (λ f p. reads (Frame f) p)) (same r (g ∙ ap (λ v. reads v r) (bit-zero s 0 existing r g e))))))))

    -- the same operating points have a removal time
    pub same_points : Every (λ x. has x ≡ has' x) q.points → frame_header has s 0 q ≡ frame_header has' s 0 q
    same_points es = header-same (λ r u. info-same r (λ x t g b h. count_same es))

    -- there is no decoder model
    pub same-no-model : q.header.opening.model.decoder_model_info_present ≡ false → frame_header has s 0 q ≡ frame_header has' s 0 q
    same-no-model e = header-same (λ r u. info-same r (λ x t g b h. absurd (flag-absent t b (rw e at h))))

    -- the flag is not 1
    pub same-no-times : ((r : ℕ) → removal_flag q s ≡ reads 1 r → ⊥) → frame_header has s 0 q ≡ frame_header has' s 0 q
    unfolding run removal_flag
    same-no-times never =
        header-same (λ r u. info-same r (λ x t g b h. absurd (never b (rw (u, g, h)))))

-- ---- 01's removal times and AV1's own

module _ (temporal spatial : ℕ) where
  -- a point whose idc is 0 is in every layer
  pub idc-layered : (x : OperatingPoint) → x.idc ≡ 0 → layered temporal spatial x ≡ modelled x
  idc-layered x e = rw e (and-true x.decoder_model_present)

  idc-each : {xs : List OperatingPoint} → Every (λ x. x.idc ≡ 0) xs → Every (λ x. layered temporal spatial x ≡ modelled x) xs
  idc-each nothing = nothing
  idc-each (also {a = x} e es) = also (idc-layered x e) (idc-each es)

  module _ (q : Sequence) (s : List ℕ) where
    -- every operating point with a model is in the OBU's layers
    pub spec-points : Every (λ x. layered temporal spatial x ≡ modelled x) q.points → spec_frame temporal spatial q s ≡ read_frame q s
    spec-points es = same_points (layered temporal spatial) modelled s q es

    -- every operating point's idc is 0
    pub spec-idc : Every (λ x. x.idc ≡ 0) q.points → spec_frame temporal spatial q s ≡ read_frame q s
    spec-idc es = spec-points (idc-each es)

    -- there is no decoder model
    pub spec-no-model : q.header.opening.model.decoder_model_info_present ≡ false → spec_frame temporal spatial q s ≡ read_frame q s
    spec-no-model e = same-no-model (layered temporal spatial) modelled s q e

    -- no removal time is read
    pub spec-no-times : ((r : ℕ) → removal_flag q s ≡ reads 1 r → ⊥) → spec_frame temporal spatial q s ≡ read_frame q s
    spec-no-times never = same-no-times (layered temporal spatial) modelled s q never

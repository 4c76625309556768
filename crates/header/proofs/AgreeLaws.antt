-- Agreement with AV1's own sequence header.
use Prim.Native.Nat.{ℕ, zero, suc, ◌*◌, ◌^◌, ◌-◌, ◌≤◌, ◌<◌}
use native.Mathlib.Omega.{arith}
use mathlib.Core.Path.{◌≡◌, refl, sym, ap, ◌∙◌}
use mathlib.Core.List.{List}
use mathlib.Core.Bool.{Bool, true, false, not, cond as pick}
use lib.ListN.{length}
use lib.Dec.{eqb, ltb}
use borrow.Author.Tests.{le-leb}
use Rattle.bitio.specs.Bits.{Reading, fails, reads, and_then, read_bits}
use Rattle.bitio.specs.Uvlc.{zero_or_end, leading_zeros, uvlc_suffix, uvlc, spec_uvlc}
use Rattle.bitio.proofs.UvlcLaws.{Not16, uvlc-agrees}
use Rattle.bitio.specs.Fields.{read_flag, read_or, flag_or, uvlc_or}
use Rattle.header.specs.SequenceRules.{Rules, ours, av1}
use Rattle.header.specs.SequenceOpening.{timing_info, decoder_model_info, opening}
use Rattle.header.specs.SequencePoints.{operating_points, point_count}
use Rattle.header.specs.SequenceCoding.{frame_size, frame_ids, coding_tools, screen_tools, filters, color_description, color_sampling, coding}
use Rattle.header.specs.Sequence.{Sequence, sequence_header, read_sequence, spec_sequence}
use Rattle.header.specs.declared.seq_header.TimingInfo.{TimingInfo}
use Rattle.header.specs.declared.seq_header.Opening.{Opening}
use Rattle.header.specs.declared.seq_header.Coding.{Coding}
use Rattle.header.specs.declared.seq_header.ColorDescription.{ColorDescription}
use Rattle.header.proofs.ReadLaws.{at_test, Holds}

-- ---- two readings that differ in one refusal only

module _ {A B : Type 0} where
  -- the same first part
  pub first-same : (k : A → ℕ → Reading B) {x y : Reading A} → x ≡ y → and_then x k ≡ and_then y k
  first-same k e = ap (λ z. and_then z k) e

  -- the first part is not refused with 16 either
  not_first : (x : Reading A) (k : A → ℕ → Reading B) → Not16 (and_then x k) → Not16 x
  not_first x k n e = n (first-same k e)

  -- what follows agrees
  agree_after : (x : Reading A) (k l : A → ℕ → Reading B) → Not16 (and_then x k) → ((a : A) (p : ℕ) → Not16 (k a p) → k a p ≡ l a p) → and_then x k ≡ and_then x l
  agree_after (fails j) k l n f = refl
  agree_after (reads a p) k l n f = f a p n

  -- the first part agrees
  agree-first : (x y : Reading A) (k : A → ℕ → Reading B) → Not16 (and_then x k) → (Not16 x → x ≡ y) → and_then x k ≡ and_then y k
  agree-first x y k n f = first-same k (f (not_first x k n))

-- what is behind a test agrees
agree-test : {A : Type 0} (t : Bool) (a x y : Reading A) → Not16 (pick t a x) → (Not16 x → x ≡ y) → pick t a x ≡ pick t a y
agree-test true a x y n f = refl
agree-test false a x y n f = f n

-- ---- up to the operating points

uvlc-not16 : (s : List ℕ) (p : ℕ) → Not16 (uvlc 32 s p) → Not16 (leading_zeros 32 s p)
unfolding uvlc
uvlc-not16 s p n e = n (rw e)

ticks-agree : (s : List ℕ) (p : ℕ) (on : Bool) → Not16 (uvlc_or 32 s p on) → uvlc_or 32 s p on ≡ uvlc_or (suc (8 * length s)) s p on
unfolding uvlc_or
ticks-agree s p true n = uvlc-agrees s p (uvlc-not16 s p n)
ticks-agree s p false n = refl

timing-agrees : (s : List ℕ) (p : ℕ) (full : Bool) → Not16 (timing_info ours s p full) → timing_info ours s p full ≡ timing_info (av1 s) s p full
unfolding timing_info
timing-agrees s p full n =
    agree_after (flag_or s p full false) _ _ n (λ present p n.
    agree_after (read_or s p present 32 0) _ _ n (λ units p n.
    agree_after (read_or s p present 32 0) _ _ n (λ scale p n.
    agree_after (flag_or s p present false) _ _ n (λ equal p n.
    agree-first (uvlc_or 32 s p equal) _ _ n (ticks-agree s p equal)))))

pub opening-agrees : (s : List ℕ) (p : ℕ) → Not16 (opening ours s p) → opening ours s p ≡ opening (av1 s) s p
unfolding opening
opening-agrees s p n =
    agree_after (read_bits s p 3) _ _ n (λ profile p n.
    agree_after (read_flag s p) _ _ n (λ still p n.
    agree_after (read_flag s p) _ _ n (λ reduced p n.
    agree-test (ltb 2 profile) _ _ _ n (λ n.
    agree-first (timing_info ours s p (not reduced)) _ _ n (timing-agrees s p (not reduced))))))

-- ---- behind the operating points

-- the colour description, where reading comes that far
unfoldable pub color_in : List ℕ → ℕ → ℕ → Bool → Reading ColorDescription
color_in s p profile full =
    and_then (frame_size s p) (λ size p.
    and_then (frame_ids s p full) (λ ids p.
    and_then (coding_tools s p full) (λ tools p.
    and_then (screen_tools s p full tools.enable_order_hint) (λ screen p.
    and_then (filters s p) (λ filters p.
    color_description s p profile)))))

-- the colour description of a payload's header, where reading comes that far
unfoldable pub color_read : List ℕ → Reading ColorDescription
color_read s =
    and_then (opening ours s 0) (λ o p.
    and_then (operating_points (point_count o) s p o) (λ xs p.
    color_in s p o.seq_profile (not o.reduced_still_picture_header)))

abbrev pub NotMono : ColorDescription → Type 0
NotMono c = c.mono_chrome ≡ false

module _ {A B C : Type 0} (P : C → Type 0) where
  -- two readings agree where P holds of what a third reads behind the same first part
  agree-where : (x : Reading A) (j : A → ℕ → Reading C) (k l : A → ℕ → Reading B) → Holds P (and_then x j) → ((a : A) (p : ℕ) → Holds P (j a p) → k a p ≡ l a p)
      → and_then x k ≡ and_then x l
  agree-where (fails n) j k l h f = refl
  agree-where (reads a p) j k l h f = f a p h

agree-held : {A B : Type 0} (P : A → Type 0) (x : Reading A) (k l : A → ℕ → Reading B) → Holds P x → ((a : A) (p : ℕ) → P a → k a p ≡ l a p) → and_then x k ≡ and_then x l
agree-held P (fails n) k l h f = refl
agree-held P (reads a p) k l h f = f a p h

sampling-agrees : (s : List ℕ) (p profile : ℕ) (c : ColorDescription) → NotMono c → color_sampling ours s p profile c ≡ color_sampling (av1 s) s p profile c
unfolding color_sampling
sampling-agrees s p profile c e = rw e

coding-agrees : (s : List ℕ) (p profile : ℕ) (full : Bool) → Holds NotMono (color_in s p profile full) → coding ours s p profile full ≡ coding (av1 s) s p profile full
unfolding coding color_in
coding-agrees s p profile full h =
    agree-where NotMono (frame_size s p) _ _ _ h (λ size p h.
    agree-where NotMono (frame_ids s p full) _ _ _ h (λ ids p h.
    agree-where NotMono (coding_tools s p full) _ _ _ h (λ tools p h.
    agree-where NotMono (screen_tools s p full tools.enable_order_hint) _ _ _ h (λ screen p h.
    agree-where NotMono (filters s p) _ _ _ h (λ filters p h.
    agree-held NotMono (color_description s p profile) _ _ h (λ color p e.
    first-same _ (sampling-agrees s p profile color e)))))))

-- ---- the whole

-- docs/DIFFERENCES.md claims it: on every payload whose header is not monochrome and has no uvlc of 32 zeros, AV1's own
-- reading and 01's are the same, refusals too
pub sequence-agrees : (s : List ℕ) → Not16 (read_sequence s) → Holds NotMono (color_read s) → read_sequence s ≡ spec_sequence s
unfolding sequence_header color_read
sequence-agrees s n h =
    agree-where NotMono (opening ours s 0) _ _ _ h (λ o p h.
    agree-where NotMono (operating_points (point_count o) s p o) _ _ _ h (λ xs p h.
    first-same _ (coding-agrees s p o.seq_profile (not o.reduced_still_picture_header) h)))
    ∙ first-same _ (opening-agrees s 0 (not_first (opening ours s 0) _ n))

-- ---- headers that were read

module _ {A B C : Type 0} (P : C → Type 0) where
  -- P holds of what is read behind x, as it does whatever x is where more than that is read
  color-after : (x : Reading A) (j : A → ℕ → Reading C) (k : A → ℕ → Reading B) {b : B} {q : ℕ} → and_then x k ≡ reads b q
      → ((a : A) (p : ℕ) → k a p ≡ reads b q → Holds P (j a p)) → Holds P (and_then x j)
  color-after (fails n) j k e f = tt
  color-after (reads a p) j k e f = f a p e

color-at : {A B : Type 0} (P : A → Type 0) (x : Reading A) (k : A → ℕ → Reading B) {b : B} {q : ℕ} → and_then x k ≡ reads b q
    → ((a : A) (p : ℕ) → k a p ≡ reads b q → P a) → Holds P x
color-at P (fails n) k e f = tt
color-at P (reads a p) k e f = f a p e

-- what was read, or else d
abbrev pub read_else : {A : Type 0} → A → Reading A → A
read_else d (fails k) = d
read_else d (reads a p) = a

-- both parts were read
pub read-both : {A B : Type 0} (G : Type 0) (x : Reading A) (k : A → ℕ → Reading B) {b : B} {q : ℕ} → and_then x k ≡ reads b q
    → ((a : A) (p : ℕ) → x ≡ reads a p → k a p ≡ reads b q → G) → G
read-both G (fails n) k e f = let z : ◌≡◌ {A = ℕ} 0 1 = cc in absurd (omega arith)
read-both G (reads a p) k e f = f a p refl e

color-in : (r : Rules) (s : List ℕ) (p profile : ℕ) (full : Bool) (c : Coding) (q : ℕ) → coding r s p profile full ≡ reads c q
    → Holds (λ d. d ≡ c.color) (color_in s p profile full)
unfolding coding color_in
color-in r s p profile full c q e =
    color-after (λ d. d ≡ c.color) (frame_size s p) _ _ e (λ size p e.
    color-after (λ d. d ≡ c.color) (frame_ids s p full) _ _ e (λ ids p e.
    color-after (λ d. d ≡ c.color) (coding_tools s p full) _ _ e (λ tools p e.
    color-after (λ d. d ≡ c.color) (screen_tools s p full tools.enable_order_hint) _ _ e (λ screen p e.
    color-after (λ d. d ≡ c.color) (filters s p) _ _ e (λ filters p e.
    color-at (λ d. d ≡ c.color) (color_description s p profile) _ e (λ color p e.
    read-both (color ≡ c.color) (color_sampling r s p profile color) _ e (λ sampling p d e.
    read-both (color ≡ c.color) (read_flag s p) _ e (λ grain p d e. ap (λ x. (read_else c x).color) e))))))))

-- what follows for each thing read
holds-so : {A : Type 0} (P Q : A → Type 0) (x : Reading A) → Holds P x → ((a : A) → P a → Q a) → Holds Q x
holds-so P Q (fails k) h f = tt
holds-so P Q (reads a p) h f = f a h

color-read : (s : List ℕ) (q : Sequence) (p : ℕ) → read_sequence s ≡ reads q p → NotMono q.header.coding.color → Holds NotMono (color_read s)
unfolding sequence_header color_read
color-read s q p e m =
    color-after NotMono (opening ours s 0) _ _ e (λ o p e.
    color-after NotMono (operating_points (point_count o) s p o) _ _ e (λ xs p e.
    read-both (Holds NotMono (color_in s p o.seq_profile (not o.reduced_still_picture_header))) (coding ours s p o.seq_profile (not o.reduced_still_picture_header)) _ e (λ c r d e.
    holds-so (λ x. x ≡ c.color) NotMono (color_in s p o.seq_profile (not o.reduced_still_picture_header)) (color-in ours s p o.seq_profile (not o.reduced_still_picture_header) c r d)
    (λ x f. ap (λ (y : ColorDescription). y.mono_chrome) (f ∙ ap (λ y. (read_else q y).header.coding.color) e) ∙ m))))

-- the same claim of docs/DIFFERENCES.md by the fields: a header that is read and is not monochrome has those that AV1 gives it
pub read-agrees : (s : List ℕ) (q : Sequence) (p : ℕ) → read_sequence s ≡ reads q p → NotMono q.header.coding.color → spec_sequence s ≡ reads q p
read-agrees s q p e m =
    sym (sequence-agrees s (λ f. let z : ◌≡◌ {A = ℕ} 0 1 = cc in omega arith) (color-read s q p e m)) ∙ e

-- ---- headers that AV1 reads

-- a reading that is known part by part
read_same : {A B : Type 0} (x y : Reading A) (k l : A → ℕ → Reading B) {b : B} {q : ℕ} → and_then y l ≡ reads b q
    → ((a : A) (p : ℕ) → y ≡ reads a p → l a p ≡ reads b q → (x ≡ reads a p) × (k a p ≡ reads b q)) → and_then x k ≡ reads b q
read_same x (fails n) k l e f = let z : ◌≡◌ {A = ℕ} 0 1 = cc in absurd (omega arith)
read_same x (reads a p) k l e f = let (g, h) = f a p refl e in rw g h

-- where a limit is reached, a reading under another has as many zeros
zeros-many : (a b : ℕ) (s : List ℕ) (p z q : ℕ) → leading_zeros a s p ≡ fails 16 → leading_zeros b s p ≡ reads z q → a ≤ z
unfolding leading_zeros
zeros-many zero b s p z q e f = omega arith
zeros-many (suc a) zero s p z q e f = let z : ◌≡◌ {A = ℕ} 0 1 = cc in absurd (omega arith)
zeros-many (suc a) (suc b) s p z q e f = turn (λ r w. zeros-many a b s r w) (read_bits s p 1) e f
  where
    more : (x y : Reading ℕ) → ((r w : ℕ) → x ≡ fails 16 → y ≡ reads w r → a ≤ w) → and_then x (λ z r. reads (suc z) r) ≡ fails 16 → and_then y (λ z r. reads (suc z) r) ≡ reads z q → suc a ≤ z
    more (reads w r) y g e f = let z : ◌≡◌ {A = ℕ} 0 1 = cc in absurd (omega arith)
    more (fails n) (fails m) g e f = let z : ◌≡◌ {A = ℕ} 0 1 = cc in absurd (omega arith)
    more (fails n) (reads w r) g e f = let k : suc w ≡ z = cc in let l : ◌≡◌ {A = Reading ℕ} (fails n) (fails 16) = cc in omega (arith, g r w l refl)

    bit : ((r w t : ℕ) → leading_zeros a s r ≡ fails 16 → leading_zeros b s r ≡ reads w t → a ≤ w) → (t : Bool) (r : ℕ)
        → pick t (reads 0 r) (and_then (leading_zeros a s r) (λ z r. reads (suc z) r)) ≡ fails 16
        → pick t (reads 0 r) (and_then (leading_zeros b s r) (λ z r. reads (suc z) r)) ≡ reads z q → suc a ≤ z
    bit g true r e f = let z : ◌≡◌ {A = ℕ} 0 1 = cc in absurd (omega arith)
    bit g false r e f = more (leading_zeros a s r) (leading_zeros b s r) (λ t w. g r w t) e f

    turn : ((r w t : ℕ) → leading_zeros a s r ≡ fails 16 → leading_zeros b s r ≡ reads w t → a ≤ w) → (x : Reading ℕ)
        → zero_or_end (leading_zeros a s) x ≡ fails 16 → zero_or_end (leading_zeros b s) x ≡ reads z q → suc a ≤ z
    turn g (fails n) e f = let z : ◌≡◌ {A = ℕ} 0 1 = cc in absurd (omega arith)
    turn g (reads v r) e f = bit g (eqb v 1) r e f

-- a uvlc that AV1 reads, but for its largest value, has fewer than 32 zeros
few-zeros : (s : List ℕ) (p v q : ℕ) → spec_uvlc s p ≡ reads v q → v < 2 ^ 32 - 1 → Not16 (leading_zeros 32 s p)
unfolding uvlc
few-zeros s p v q e h f =
    read-both ⊥ (leading_zeros (suc (8 * length s)) s p) _ e (λ z r d e.
    let k = zeros-many 32 (suc (8 * length s)) s p z r f d in
    let l = sym (at_test (reads (2 ^ 32 - 1) r) (uvlc_suffix s z r) refl (le-leb 32 z k)) ∙ e in
    let m : 2 ^ 32 - 1 ≡ v = ap (read_else 0) l in
    omega arith)

ticks-back : (s : List ℕ) (p : ℕ) (on : Bool) (v q : ℕ) → uvlc_or (suc (8 * length s)) s p on ≡ reads v q → v < 2 ^ 32 - 1 → uvlc_or 32 s p on ≡ reads v q
unfolding uvlc_or
ticks-back s p true v q e h = uvlc-agrees s p (few-zeros s p v q e h) ∙ e
ticks-back s p false v q e h = e

-- the ticks are not the largest number
abbrev pub FewTicks : TimingInfo → Type 0
FewTicks t = t.num_ticks_per_picture_minus_1 < 2 ^ 32 - 1

timing-back : (s : List ℕ) (p : ℕ) (full : Bool) (t : TimingInfo) (q : ℕ) → timing_info (av1 s) s p full ≡ reads t q → FewTicks t → timing_info ours s p full ≡ reads t q
unfolding timing_info
timing-back s p full t q e h =
    read_same (flag_or s p full false) _ _ _ e (λ present p d e. (
      d,
      read_same (read_or s p present 32 0) _ _ _ e (λ units p d e. (
        d,
        read_same (read_or s p present 32 0) _ _ _ e (λ scale p d e. (
          d,
          read_same (flag_or s p present false) _ _ _ e (λ equal p d e. (
            d,
            read_same (uvlc_or 32 s p equal) (uvlc_or (suc (8 * length s)) s p equal) _ _ e (λ ticks r d e.
                let m : ticks ≡ t.num_ticks_per_picture_minus_1 = ap (λ y. (read_else t y).num_ticks_per_picture_minus_1) e in
                (ticks-back s p equal ticks r d (omega arith), e)),
          )),
        )),
      )),
    ))

opening-back : (s : List ℕ) (p : ℕ) (o : Opening) (q : ℕ) → opening (av1 s) s p ≡ reads o q → FewTicks o.timing → opening ours s p ≡ reads o q
unfolding opening
opening-back s p o q e h =
    read_same (read_bits s p 3) _ _ _ e (λ profile p d e. (
      d,
      read_same (read_flag s p) _ _ _ e (λ still p d e. (
        d,
        read_same (read_flag s p) _ _ _ e (λ reduced p d e. (
          d,
          test (ltb 2 profile) _ _ e (λ e.
              read_same (timing_info ours s p (not reduced)) (timing_info (av1 s) s p (not reduced)) _ _ e (λ timing r d e.
              let m : timing ≡ o.timing =
              read-both (timing ≡ o.timing) (decoder_model_info s r timing.timing_info_present) _ e (λ model p d e.
              read-both (timing ≡ o.timing) (flag_or s p (not reduced) false) _ e (λ delay p d e.
              read-both (timing ≡ o.timing) (read_or s p (not reduced) 5 0) _ e (λ more p d e. ap (λ y. (read_else o y).timing) e))) in
              (timing-back s p (not reduced) timing r d (rw m h), e))),
        )),
      )),
    ))
  where
    test : (t : Bool) (x y : Reading Opening) → pick t (fails 15) y ≡ reads o q → (y ≡ reads o q → x ≡ reads o q) → pick t (fails 15) x ≡ reads o q
    test true x y e f = e
    test false x y e f = f e

coding-back : (s : List ℕ) (p profile : ℕ) (full : Bool) (c : Coding) (q : ℕ) → coding (av1 s) s p profile full ≡ reads c q → NotMono c.color → coding ours s p profile full ≡ reads c q
coding-back s p profile full c q e m =
    coding-agrees s p profile full
    (holds-so (λ x. x ≡ c.color) NotMono (color_in s p profile full) (color-in (av1 s) s p profile full c q e) (λ x f. ap (λ (y : ColorDescription). y.mono_chrome) f ∙ m))
    ∙ e

-- and the other way: a header that AV1 reads, not monochrome and without 32 zeros, is read with the same fields
pub spec-agrees : (s : List ℕ) (q : Sequence) (p : ℕ) → spec_sequence s ≡ reads q p → NotMono q.header.coding.color → FewTicks q.header.opening.timing → read_sequence s ≡ reads q p
unfolding sequence_header
spec-agrees s q p e m h =
    read_same (opening ours s 0) (opening (av1 s) s 0) _ _ e (λ o r d e.
    let g : o ≡ q.header.opening =
    read-both (o ≡ q.header.opening) (operating_points (point_count o) s r o) _ e (λ xs p d e.
    read-both (o ≡ q.header.opening) (coding (av1 s) s p o.seq_profile (not o.reduced_still_picture_header)) _ e (λ c p d e. ap (λ y. (read_else q y).header.opening) e)) in (
      opening-back s 0 o r d (rw g h),
      read_same (operating_points (point_count o) s r o) _ _ _ e (λ xs p d e. (
        d,
        read_same (coding ours s p o.seq_profile (not o.reduced_still_picture_header)) (coding (av1 s) s p o.seq_profile (not o.reduced_still_picture_header)) _ _ e (λ c r d e.
            let k : c.color ≡ q.header.coding.color = ap (λ y. (read_else q y).header.coding.color) e in
            (coding-back s p o.seq_profile (not o.reduced_still_picture_header) c r d (rw k m), e)),
      )),
    ))

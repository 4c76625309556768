-- Monochrome headers: what AV1 reads so is never supported here (docs/DIFFERENCES.md).
use Prim.Native.Nat.{ℕ}
use native.Mathlib.Omega.{arith}
use native.Mathlib.Decide.{ℕ_discrete}
use mathlib.Core.Path.{◌≡◌, refl, sym, ap, ◌∙◌}
use mathlib.Core.Logic.{◌⊎◌, inl, inr}
use mathlib.Core.List.{List}
use mathlib.Core.Bool.{Bool, true, false, not, cond as pick}
use Rattle.bitio.specs.Parse.{refused, accepted, and_next}
use Rattle.bitio.specs.Bits.{Reading, fails, reads, and_then}
use Rattle.bitio.specs.Fields.{read_flag, read_or, flag_or}
use Rattle.header.specs.SequenceRules.{ours, av1}
use Rattle.header.specs.SequenceOpening.{opening}
use Rattle.header.specs.SequencePoints.{operating_points, point_count}
use Rattle.header.specs.SequenceCoding.{frame_size, frame_ids, coding_tools, screen_tools, filters, color_description, color_sampling, coding}
use Rattle.header.specs.Sequence.{Sequence, sequence_header, read_sequence, spec_sequence, parse_sequence}
use Rattle.header.specs.Support.{has_point_info, support, supported_sequence}
use Rattle.header.specs.declared.seq_header.Opening.{Opening}
use Rattle.header.specs.declared.seq_header.Coding.{Coding}
use Rattle.header.specs.declared.seq_header.ColorDescription.{ColorDescription}
use Rattle.header.specs.declared.seq_header.ColorSampling.{ColorSampling}
use Rattle.header.specs.declared.seq_header.SequenceHeader.{SequenceHeader}
use Rattle.header.proofs.AgreeLaws.{first-same, read-both, read_else, opening-agrees}

-- what AV1 reads of the colours of a monochrome header, and what is read here: one bit more
abbrev spare : Bool → ColorSampling
spare range = record { color_range = range; subsample_x = true; subsample_y = true; chroma_sample_position = 0; separate_uv_delta_q = false }

abbrev kept : Bool → Bool → ColorSampling
kept range separate = record { color_range = range; subsample_x = false; subsample_y = false; chroma_sample_position = 0; separate_uv_delta_q = separate }

module _ (s : List ℕ) (p profile : ℕ) (c : ColorDescription) (mono : c.mono_chrome ≡ true) where
  sampling-av1 : color_sampling (av1 s) s p profile c ≡ and_then (read_flag s p) (λ range p. reads (spare range) p)
  unfolding color_sampling flag_or read_or
  sampling-av1 = rw mono

  sampling-ours : color_sampling ours s p profile c ≡ and_then (read_flag s p) (λ range p. and_then (read_flag s p) (λ separate p. reads (kept range separate) p))
  unfolding color_sampling flag_or read_or
  sampling-ours = rw mono

-- the fields that AV1 gives c, as they are read here: its film grain flag is taken for separate_uv_delta_q, and the one of
-- the trailing bits for film grain
abbrev pub mono_coding : Coding → Coding
mono_coding c =
    record {
      size = c.size;
      ids = c.ids;
      tools = c.tools;
      screen = c.screen;
      filters = c.filters;
      color = c.color;
      sampling = kept c.sampling.color_range c.film_grain_params_present;
      film_grain_params_present = true;
    }

abbrev pub mono_sequence : Sequence → Sequence
mono_sequence q = record { header = record { opening = q.header.opening; coding = mono_coding q.header.coding }; points = q.points }

-- two readings that begin with the same
read-on : {A B C : Type 0} (x : Reading A) (k : A → ℕ → Reading B) (l : A → ℕ → Reading C) {b : B} {q : ℕ} {y : Reading C} → and_then x k ≡ reads b q
    → ((a : A) (p : ℕ) → k a p ≡ reads b q → l a p ≡ y) → and_then x l ≡ y
read-on (fails n) k l e f = let z : ◌≡◌ {A = ℕ} 0 1 = cc in absurd (omega arith)
read-on (reads a p) k l e f = f a p e

-- the number of a refusal
abbrev refusal_of : {A : Type 0} → Reading A → ℕ
refusal_of (fails k) = k
refusal_of (reads a p) = 0

-- where a reading ended
abbrev end_of : {A : Type 0} → ℕ → Reading A → ℕ
end_of d (fails k) = d
end_of d (reads a p) = p

module _ (s : List ℕ) (c : Coding) (q r : ℕ) (one : read_flag s q ≡ reads true r) where
  -- from the colours on, where all before them is known
  module _ (p profile : ℕ) (color : ColorDescription) (mono : color.mono_chrome ≡ true) (whole : ColorSampling → Bool → Coding) (same : (range grain : Bool) → whole (spare range) grain ≡ c → whole (kept range grain) true ≡ mono_coding c) where
    tail-mono : and_then (color_sampling (av1 s) s p profile color) (λ sampling p. and_then (read_flag s p) (λ grain p. reads (whole sampling grain) p)) ≡ reads c q
        → and_then (color_sampling ours s p profile color) (λ sampling p. and_then (read_flag s p) (λ grain p. reads (whole sampling grain) p)) ≡ reads (mono_coding c) r
    tail-mono e =
        first-same _ (sampling-ours s p profile color mono)
        ∙ range-on (read_flag s p) (sym (first-same _ (sampling-av1 s p profile color mono)) ∙ e)
      where
        grain-on : (range : Bool) (p : ℕ) (x : Reading Bool) → read_flag s p ≡ x → and_then x (λ grain p. reads (whole (spare range) grain) p) ≡ reads c q
            → and_then (and_then x (λ separate p. reads (kept range separate) p)) (λ sampling p. and_then (read_flag s p) (λ grain p. reads (whole sampling grain) p)) ≡ reads (mono_coding c) r
        grain-on range p (fails k) d e = let z : ◌≡◌ {A = ℕ} 0 1 = cc in absurd (omega arith)
        grain-on range p (reads grain p') d e =
            let a : p' ≡ q = ap (end_of 0) e in
            let w : whole (spare range) grain ≡ c = ap (read_else c) e in
            rw (a, one) (ap (λ y. reads y r) (same range grain w))

        range-on : (x : Reading Bool) → and_then (and_then x (λ range p. reads (spare range) p)) (λ sampling p. and_then (read_flag s p) (λ grain p. reads (whole sampling grain) p)) ≡ reads c q
            → and_then (and_then x (λ range p. and_then (read_flag s p) (λ separate p. reads (kept range separate) p))) (λ sampling p. and_then (read_flag s p) (λ grain p. reads (whole sampling grain) p)) ≡ reads (mono_coding c) r
        range-on (fails k) e = let z : ◌≡◌ {A = ℕ} 0 1 = cc in absurd (omega arith)
        range-on (reads range p) e = grain-on range p (read_flag s p) refl e

coding-mono : (s : List ℕ) (p profile : ℕ) (full : Bool) (c : Coding) (q r : ℕ) → coding (av1 s) s p profile full ≡ reads c q → c.color.mono_chrome ≡ true → read_flag s q ≡ reads true r
    → coding ours s p profile full ≡ reads (mono_coding c) r
unfolding coding
coding-mono s p profile full c q r e mono one =
    read-on (frame_size s p) _ _ e (λ size p e.
    read-on (frame_ids s p full) _ _ e (λ ids p e.
    read-on (coding_tools s p full) _ _ e (λ tools p e.
    read-on (screen_tools s p full tools.enable_order_hint) _ _ e (λ screen p e.
    read-on (filters s p) _ _ e (λ filters p e.
    read-on (color_description s p profile) _ _ e (λ color p e.
    let same : color ≡ c.color =
    read-both (color ≡ c.color) (color_sampling (av1 s) s p profile color) _ e (λ sampling p d e.
    read-both (color ≡ c.color) (read_flag s p) _ e (λ grain p d e. ap (λ x. (read_else c x).color) e)) in
    tail-mono s c q r one p profile color (ap (λ (y : ColorDescription). y.mono_chrome) same ∙ mono)
    (λ sampling grain. record { size = size; ids = ids; tools = tools; screen = screen; filters = filters; color = color; sampling = sampling; film_grain_params_present = grain })
    (λ range grain w. ap mono_coding w) e))))))

-- a monochrome header that AV1 reads, with the one of its trailing bits behind it, is read with film grain, unless a uvlc of
-- 32 zeros was met before
pub mono-read : (s : List ℕ) (q : Sequence) (p r : ℕ) → spec_sequence s ≡ reads q p → q.header.coding.color.mono_chrome ≡ true → read_flag s p ≡ reads true r
    → (read_sequence s ≡ fails 16) ⊎ (read_sequence s ≡ reads (mono_sequence q) r)
unfolding sequence_header
mono-read s q p r e mono one = go (opening ours s 0) refl
  where
    go : (x : Reading Opening) → opening ours s 0 ≡ x → (read_sequence s ≡ fails 16) ⊎ (read_sequence s ≡ reads (mono_sequence q) r)
    go (fails k) d =
        elim (ℕ_discrete k 16) [
          | yes h ↦ inl (first-same _ d ∙ ap fails h)
          | no h ↦
              let a = opening-agrees s 0 (λ f. h (ap refusal_of (sym d ∙ f))) in
              let z : fails k ≡ reads q p = sym (first-same _ (sym a ∙ d)) ∙ e in
              let w : ◌≡◌ {A = ℕ} 0 1 = cc in
              absurd (omega arith)
        ]
    go (reads o i) d =
        let a = opening-agrees s 0 (λ f. let z : reads o i ≡ fails 16 = sym d ∙ f in let w : ◌≡◌ {A = ℕ} 0 1 = cc in omega arith) in
        inr (first-same _ d ∙ read-on (operating_points (point_count o) s i o) _ _ (sym (first-same _ (sym a ∙ d)) ∙ e) (λ xs j e.
        read-both _ (coding (av1 s) s j o.seq_profile (not o.reduced_still_picture_header)) _ e (λ c l f e.
        let same : c.color ≡ q.header.coding.color = ap (λ y. (read_else q y).header.coding.color) e in
        let at : l ≡ p = ap (end_of 0) e in
        first-same _ (coding-mono s j o.seq_profile (not o.reduced_still_picture_header) c l r f (ap (λ (y : ColorDescription). y.mono_chrome) same ∙ mono) (rw at one))
        ∙ ap (λ y. reads (mono_sequence (read_else q y)) r) e)))

-- what support says of a header with film grain
abbrev pub grain_refusal : SequenceHeader → ℕ
grain_refusal h = pick h.opening.reduced_still_picture_header 17 (pick h.coding.ids.frame_id_numbers_present 18 (pick (has_point_info h.opening) 19 20))

-- docs/DIFFERENCES.md claims it: no conforming monochrome header is supported. It is refused with 16 for a uvlc of 32 zeros,
-- else with the first of 17 to 20 that there is reason for, 20 if for none other
pub mono-refused : (s : List ℕ) (q : Sequence) (p r : ℕ) → spec_sequence s ≡ reads q p → q.header.coding.color.mono_chrome ≡ true → read_flag s p ≡ reads true r
    → (supported_sequence s ≡ refused 16) ⊎ (supported_sequence s ≡ refused (grain_refusal q.header))
unfolding supported_sequence parse_sequence and_next support
mono-refused s q p r e mono one =
    elim (mono-read s q p r e mono one) [
      | inl f ↦ inl (rw f)
      | inr f ↦ inr (rw f (which q.header.opening.reduced_still_picture_header q.header.coding.ids.frame_id_numbers_present (has_point_info q.header.opening)))
    ]
  where
    which : (a b c : Bool) → and_next {A = Unit {0}} (pick a (refused 17) (pick b (refused 18) (pick c (refused 19) (refused 20)))) (λ _. accepted (mono_sequence q)) ≡ refused (pick a 17 (pick b 18 (pick c 19 20)))
    which true b c = refl
    which false true c = refl
    which false false true = refl
    which false false false = refl

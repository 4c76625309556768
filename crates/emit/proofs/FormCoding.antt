-- What stands behind the operating points, as it is read.
use Prim.Native.Nat.{ℕ}
use mathlib.Core.List.{List}
use mathlib.Core.Bool.{Bool, true}
use Rattle.header.specs.SequenceRules.{ours}
use Rattle.header.specs.SequenceCoding.{frame_size, frame_ids, coding_tools, screen_tools, filters, color_description, color_sampling, coding}
use Rattle.emittable.specs.PutSequence.{put_size, put_ids, put_tools, put_screen, put_filters, put_color, put_sampling, put_coding}
use Rattle.emittable.specs.Emittable.{size_fits, ids_fit, tools_fit, screen_fits, color_fits, sampling_fits, coding_fits}
use Rattle.header.specs.declared.seq_header.ColorDescription.{ColorDescription}
use Rattle.emit.proofs.FormFields.{Holds, holds-reads, holds_then, Formed, formed-then, formed-also, bits-form, flag-form, or-form, flag-or-form, flag-always-form}

-- the largest frame
pub size-form : (s : List ℕ) (p : ℕ) → Holds (λ z q. Formed s p (size_fits z) (put_size z) q) (frame_size s p)
unfolding put_size size_fits frame_size
size-form s p =
    holds_then _ (bits-form _ _ _) (λ v p f1.
    holds_then _ (bits-form _ _ _) (λ v p f2.
    holds_then _ (bits-form _ _ _) (λ v p f3.
    holds_then _ (bits-form _ _ _) (λ v p f4.
    holds-reads (formed-then (formed-then (formed-then f1 f2) f3) f4)))))

-- the widths of frame ids
pub ids-form : (s : List ℕ) (p : ℕ) (full : Bool) → Holds (λ i q. Formed s p (ids_fit full i) (put_ids full i) q) (frame_ids s p full)
unfolding put_ids ids_fit frame_ids
ids-form s p full =
    holds_then _ (flag-or-form _ _ _ _) (λ v p f1.
    holds_then _ (or-form _ _ _ _ _) (λ v p f2.
    holds_then _ (or-form _ _ _ _ _) (λ v p f3.
    holds-reads (formed-then (formed-then f1 f2) f3))))

-- use_128x128_superblock to enable_ref_frame_mvs
pub tools-form : (s : List ℕ) (p : ℕ) (full : Bool) → Holds (λ t q. Formed s p (tools_fit full t) (put_tools full t) q) (coding_tools s p full)
unfolding put_tools tools_fit coding_tools
tools-form s p full =
    holds_then _ (flag-form _ _) (λ v p f1.
    holds_then _ (flag-form _ _) (λ v p f2.
    holds_then _ (flag-form _ _) (λ v p f3.
    holds_then _ (flag-or-form _ _ _ _) (λ v p f4.
    holds_then _ (flag-or-form _ _ _ _) (λ v p f5.
    holds_then _ (flag-or-form _ _ _ _) (λ v p f6.
    holds_then _ (flag-or-form _ _ _ _) (λ v p f7.
    holds_then _ (flag-or-form _ _ _ _) (λ v p f8.
    holds_then _ (flag-or-form _ _ _ _) (λ v p f9.
    holds_then _ (flag-or-form _ _ _ _) (λ v p f10.
    holds-reads (formed-then (formed-then (formed-then (formed-then (formed-then (formed-then (formed-then (formed-also (formed-also f1 f2) f3) f4) f5) f6) f7) f8) f9) f10)))))))))))

-- screen content tools, integer motion vectors, and the order hint's width
pub screen-form : (s : List ℕ) (p : ℕ) (full hint : Bool) → Holds (λ t q. Formed s p (screen_fits full hint t) (put_screen full hint t) q) (screen_tools s p full hint)
unfolding put_screen screen_fits screen_tools
screen-form s p full hint =
    holds_then _ (flag-or-form _ _ _ _) (λ v p f1.
    holds_then _ (or-form _ _ _ _ _) (λ v p f2.
    holds_then _ (flag-or-form _ _ _ _) (λ v p f3.
    holds_then _ (or-form _ _ _ _ _) (λ v p f4.
    holds_then _ (or-form _ _ _ _ _) (λ v p f5.
    holds-reads (formed-then (formed-then (formed-then (formed-then f1 f2) f3) f4) f5))))))

-- enable_superres to enable_restoration
pub filters-form : (s : List ℕ) (p : ℕ) → Holds (λ f q. Formed s p true (put_filters f) q) (filters s p)
unfolding put_filters filters
filters-form s p =
    holds_then _ (flag-form _ _) (λ v p f1.
    holds_then _ (flag-form _ _) (λ v p f2.
    holds_then _ (flag-form _ _) (λ v p f3.
    holds-reads (formed-also (formed-also f1 f2) f3))))

-- AV1 5.5.2 color_config up to the matrix coefficients
pub color-form : (s : List ℕ) (p : ℕ) (profile : ℕ) → Holds (λ c q. Formed s p (color_fits profile c) (put_color profile c) q) (color_description s p profile)
unfolding put_color color_fits color_description
color-form s p profile =
    holds_then _ (flag-form _ _) (λ v p f1.
    holds_then _ (flag-or-form _ _ _ _) (λ v p f2.
    holds_then _ (flag-or-form _ _ _ _) (λ v p f3.
    holds_then _ (flag-form _ _) (λ v p f4.
    holds_then _ (or-form _ _ _ _ _) (λ v p f5.
    holds_then _ (or-form _ _ _ _ _) (λ v p f6.
    holds_then _ (or-form _ _ _ _ _) (λ v p f7.
    holds-reads (formed-then (formed-then (formed-then (formed-also (formed-then (formed-then f1 f2) f3) f4) f5) f6) f7))))))))

-- AV1 5.5.2 color_config from color_range on
pub sampling-form : (s : List ℕ) (p : ℕ) (profile : ℕ) (c : ColorDescription) → Holds (λ m q. Formed s p (sampling_fits profile c m) (put_sampling profile c m) q) (color_sampling ours s p profile c)
unfolding put_sampling sampling_fits color_sampling
sampling-form s p profile c =
    holds_then _ (flag-or-form _ _ _ _) (λ v p f1.
    holds_then _ (flag-or-form _ _ _ _) (λ v p f2.
    holds_then _ (flag-or-form _ _ _ _) (λ v p f3.
    holds_then _ (or-form _ _ _ _ _) (λ v p f4.
    holds_then _ (flag-always-form _ _) (λ v p f5.
    holds-reads (formed-also (formed-then (formed-then (formed-then f1 f2) f3) f4) f5))))))

-- AV1 5.5.1 behind the operating points
pub coding-form : (s : List ℕ) (p : ℕ) (profile : ℕ) (full : Bool) → Holds (λ c q. Formed s p (coding_fits profile full c) (put_coding profile full c) q) (coding ours s p profile full)
unfolding put_coding coding_fits coding
coding-form s p profile full =
    holds_then _ (size-form _ _) (λ v p f1.
    holds_then _ (ids-form _ _ _) (λ v p f2.
    holds_then _ (tools-form _ _ _) (λ v p f3.
    holds_then _ (screen-form _ _ _ _) (λ v p f4.
    holds_then _ (filters-form _ _) (λ v p f5.
    holds_then _ (color-form _ _ _) (λ v p f6.
    holds_then _ (sampling-form _ _ _ _) (λ v p f7.
    holds_then _ (flag-form _ _) (λ v p f8.
    holds-reads (formed-also (formed-then (formed-then (formed-also (formed-then (formed-then (formed-then f1 f2) f3) f4) f5) f6) f7) f8)))))))))

-- What stands behind the operating points is read back, section by section.
use mathlib.Core.Path.{◌≡◌}
use Prim.Native.Nat.{ℕ, ◌+◌, ◌≤◌}
use native.Mathlib.Omega.{arith}
use mathlib.Core.List.{List}
use mathlib.Core.Bool.{Bool, true}
use borrow.Author.Tests.{ltb-true}
use Rattle.bitio.proofs.SeesLaws.{Sees}
use Rattle.emittable.specs.PutFields.{fits}
use Rattle.header.specs.SequenceRules.{ours}
use Rattle.header.specs.SequenceCoding.{frame_size, frame_ids, coding_tools, screen_tools, filters, color_description, color_sampling, coding}
use Rattle.emittable.specs.PutSequence.{put_size, put_ids, put_tools, put_screen, put_filters, put_color, put_sampling, put_coding}
use Rattle.emittable.specs.Emittable.{size_fits, ids_fit, tools_fit, screen_fits, color_fits, sampling_fits, coding_fits}
use Rattle.header.specs.declared.seq_header.FrameSize.{FrameSize}
use Rattle.header.specs.declared.seq_header.FrameIds.{FrameIds}
use Rattle.header.specs.declared.seq_header.Tools.{Tools}
use Rattle.header.specs.declared.seq_header.ScreenTools.{ScreenTools}
use Rattle.header.specs.declared.seq_header.Filters.{Filters}
use Rattle.header.specs.declared.seq_header.ColorDescription.{ColorDescription}
use Rattle.header.specs.declared.seq_header.ColorSampling.{ColorSampling}
use Rattle.header.specs.declared.seq_header.Coding.{Coding}
use Rattle.emittable.proofs.BackFields.{Back, done, next, bits_back, flag-back, or-back, flag-or-back, flag-always-back}
use Rattle.bitio.proofs.ParseLaws.{and_both}

-- a width of four bits, and one more
width : (n : ℕ) → fits 4 n ≡ true → n + 1 ≤ 64
unfolding fits
width n g = let h = ltb-true n 16 g in omega arith

-- the largest frame
pub size_back : (z : FrameSize) (l : List ℕ) {s : List ℕ} {p : ℕ} → size_fits z ≡ true → Sees s p (put_size z l) → Back s (frame_size s p) z l
unfolding put_size size_fits frame_size
size_back z l g k =
    let (g, g4) = and_both _ _ g in
    let (g, g3) = and_both _ _ g in
    let (g1, g2) = and_both _ _ g in
    next _ _ (bits_back _ _ _ g1 (omega arith) k) (λ p k.
    next _ _ (bits_back _ _ _ g2 (omega arith) k) (λ p k.
    next _ _ (bits_back _ _ _ g3 (width _ g1) k) (λ p k.
    next _ _ (bits_back _ _ _ g4 (width _ g2) k) (λ p k.
    done _ k))))

-- the widths of frame ids
pub ids-back : (full : Bool) (i : FrameIds) (l : List ℕ) {s : List ℕ} {p : ℕ} → ids_fit full i ≡ true → Sees s p (put_ids full i l) → Back s (frame_ids s p full) i l
unfolding put_ids ids_fit frame_ids
ids-back full i l g k =
    let (g, g3) = and_both _ _ g in
    let (g1, g2) = and_both _ _ g in
    next _ _ (flag-or-back _ _ _ _ g1 k) (λ p k.
    next _ _ (or-back _ _ _ _ _ g2 (omega arith) k) (λ p k.
    next _ _ (or-back _ _ _ _ _ g3 (omega arith) k) (λ p k.
    done _ k)))

-- use_128x128_superblock to enable_ref_frame_mvs
pub tools-back : (full : Bool) (t : Tools) (l : List ℕ) {s : List ℕ} {p : ℕ} → tools_fit full t ≡ true → Sees s p (put_tools full t l) → Back s (coding_tools s p full) t l
unfolding put_tools tools_fit coding_tools
tools-back full t l g k =
    let (g, g7) = and_both _ _ g in
    let (g, g6) = and_both _ _ g in
    let (g, g5) = and_both _ _ g in
    let (g, g4) = and_both _ _ g in
    let (g, g3) = and_both _ _ g in
    let (g1, g2) = and_both _ _ g in
    next _ _ (flag-back _ _ k) (λ p k.
    next _ _ (flag-back _ _ k) (λ p k.
    next _ _ (flag-back _ _ k) (λ p k.
    next _ _ (flag-or-back _ _ _ _ g1 k) (λ p k.
    next _ _ (flag-or-back _ _ _ _ g2 k) (λ p k.
    next _ _ (flag-or-back _ _ _ _ g3 k) (λ p k.
    next _ _ (flag-or-back _ _ _ _ g4 k) (λ p k.
    next _ _ (flag-or-back _ _ _ _ g5 k) (λ p k.
    next _ _ (flag-or-back _ _ _ _ g6 k) (λ p k.
    next _ _ (flag-or-back _ _ _ _ g7 k) (λ p k.
    done _ k))))))))))

-- screen content tools, integer motion vectors, and the order hint's width
pub screen-back : (full hint : Bool) (t : ScreenTools) (l : List ℕ) {s : List ℕ} {p : ℕ} → screen_fits full hint t ≡ true → Sees s p (put_screen full hint t l) → Back s (screen_tools s p full hint) t l
unfolding put_screen screen_fits screen_tools
screen-back full hint t l g k =
    let (g, g5) = and_both _ _ g in
    let (g, g4) = and_both _ _ g in
    let (g, g3) = and_both _ _ g in
    let (g1, g2) = and_both _ _ g in
    next _ _ (flag-or-back _ _ _ _ g1 k) (λ p k.
    next _ _ (or-back _ _ _ _ _ g2 (omega arith) k) (λ p k.
    next _ _ (flag-or-back _ _ _ _ g3 k) (λ p k.
    next _ _ (or-back _ _ _ _ _ g4 (omega arith) k) (λ p k.
    next _ _ (or-back _ _ _ _ _ g5 (omega arith) k) (λ p k.
    done _ k)))))

-- enable_superres to enable_restoration
pub filters-back : (f : Filters) (l : List ℕ) {s : List ℕ} {p : ℕ} → Sees s p (put_filters f l) → Back s (filters s p) f l
unfolding put_filters filters
filters-back f l k =
    next _ _ (flag-back _ _ k) (λ p k.
    next _ _ (flag-back _ _ k) (λ p k.
    next _ _ (flag-back _ _ k) (λ p k.
    done _ k)))

-- AV1 5.5.2 color_config up to the matrix coefficients
pub color-back : (profile : ℕ) (c : ColorDescription) (l : List ℕ) {s : List ℕ} {p : ℕ} → color_fits profile c ≡ true → Sees s p (put_color profile c l) → Back s (color_description s p profile) c l
unfolding put_color color_fits color_description
color-back profile c l g k =
    let (g, g5) = and_both _ _ g in
    let (g, g4) = and_both _ _ g in
    let (g, g3) = and_both _ _ g in
    let (g1, g2) = and_both _ _ g in
    next _ _ (flag-back _ _ k) (λ p k.
    next _ _ (flag-or-back _ _ _ _ g1 k) (λ p k.
    next _ _ (flag-or-back _ _ _ _ g2 k) (λ p k.
    next _ _ (flag-back _ _ k) (λ p k.
    next _ _ (or-back _ _ _ _ _ g3 (omega arith) k) (λ p k.
    next _ _ (or-back _ _ _ _ _ g4 (omega arith) k) (λ p k.
    next _ _ (or-back _ _ _ _ _ g5 (omega arith) k) (λ p k.
    done _ k)))))))

-- AV1 5.5.2 color_config from color_range on
pub sampling-back : (profile : ℕ) (c : ColorDescription) (m : ColorSampling) (l : List ℕ) {s : List ℕ} {p : ℕ} → sampling_fits profile c m ≡ true → Sees s p (put_sampling profile c m l) → Back s (color_sampling ours s p profile c) m l
unfolding put_sampling sampling_fits color_sampling
sampling-back profile c m l g k =
    let (g, g4) = and_both _ _ g in
    let (g, g3) = and_both _ _ g in
    let (g1, g2) = and_both _ _ g in
    next _ _ (flag-or-back _ _ _ _ g1 k) (λ p k.
    next _ _ (flag-or-back _ _ _ _ g2 k) (λ p k.
    next _ _ (flag-or-back _ _ _ _ g3 k) (λ p k.
    next _ _ (or-back _ _ _ _ _ g4 (omega arith) k) (λ p k.
    next _ _ (flag-always-back _ _ k) (λ p k.
    done _ k)))))

-- AV1 5.5.1 behind the operating points
pub coding-back : (profile : ℕ) (full : Bool) (c : Coding) (l : List ℕ) {s : List ℕ} {p : ℕ} → coding_fits profile full c ≡ true → Sees s p (put_coding profile full c l) → Back s (coding ours s p profile full) c l
unfolding put_coding coding_fits coding
coding-back profile full c l g k =
    let (g, g6) = and_both _ _ g in
    let (g, g5) = and_both _ _ g in
    let (g, g4) = and_both _ _ g in
    let (g, g3) = and_both _ _ g in
    let (g1, g2) = and_both _ _ g in
    next _ _ (size_back _ _ g1 k) (λ p k.
    next _ _ (ids-back _ _ _ g2 k) (λ p k.
    next _ _ (tools-back _ _ _ g3 k) (λ p k.
    next _ _ (screen-back _ _ _ _ g4 k) (λ p k.
    next _ _ (filters-back _ _ k) (λ p k.
    next _ _ (color-back _ _ _ g5 k) (λ p k.
    next _ _ (sampling-back _ _ _ _ g6 k) (λ p k.
    next _ _ (flag-back _ _ k) (λ p k.
    done _ k))))))))

-- The sizes of a sequence header that was read.
use Prim.Native.Nat.{ℕ, ◌+◌, ◌^◌, ◌≤◌, ◌<◌}
use native.Mathlib.Omega.{arith}
use mathlib.Core.Path.{◌≡◌}
use mathlib.Core.List.{List}
use mathlib.Core.Bool.{Bool, not}
use lib.Pow.{pow_mono}
use Rattle.bitio.specs.Parse.{accepted}
use Rattle.bitio.specs.Bits.{read_bits}
use Rattle.bitio.specs.Fields.{read_flag}
use Rattle.header.specs.SequenceRules.{Rules, ours}
use Rattle.header.specs.SequenceOpening.{opening}
use Rattle.header.specs.SequencePoints.{operating_points, point_count}
use Rattle.header.specs.SequenceCoding.{frame_size, frame_ids, coding_tools, screen_tools, filters, color_description, color_sampling, coding}
use Rattle.header.specs.Sequence.{Sequence, sequence_header, read_sequence, parse_sequence}
use Rattle.header.specs.declared.seq_header.Coding.{Coding}
use Rattle.header.proofs.ReadLaws.{Holds, then-holds, then-any, bits-lt}
use Rattle.frame.proofs.FrameLaws.{answered}
use Rattle.geometry.specs.code.Sizes.{SizesWithin}

-- a number of at most 16 bits
short : (n : ℕ) {v : ℕ} → n < 16 → v < 2 ^ (n + 1) → v < 65536
short n h l = let m : n + 1 ≤ 16 = omega arith in omega (arith, pow_mono m)

size-within : (s : List ℕ) (p : ℕ) → Holds SizesWithin (frame_size s p)
unfolding frame_size
size-within s p =
    then-holds (λ v. v < 16) SizesWithin (read_bits s p 4) _ (bits-lt s p 4) (λ w p a.
    then-holds (λ v. v < 16) SizesWithin (read_bits s p 4) _ (bits-lt s p 4) (λ h p b.
    then-holds (λ v. v < 2 ^ (w + 1)) SizesWithin (read_bits s p (w + 1)) _ (bits-lt s p (w + 1)) (λ width p c.
    then-holds (λ v. v < 2 ^ (h + 1)) SizesWithin (read_bits s p (h + 1)) _ (bits-lt s p (h + 1)) (λ height p d.
    record { width-bits = a; height-bits = b; width = short w a c; height = short h b d }))))

abbrev Sized : Coding → Type 0
Sized c = SizesWithin c.size

coding-within : (r : Rules) (s : List ℕ) (p profile : ℕ) (full : Bool) → Holds Sized (coding r s p profile full)
unfolding coding
coding-within r s p profile full =
    then-holds SizesWithin Sized (frame_size s p) _ (size-within s p) (λ size p h.
    then-any Sized (frame_ids s p full) _ (λ ids p.
    then-any Sized (coding_tools s p full) _ (λ tools p.
    then-any Sized (screen_tools s p full tools.enable_order_hint) _ (λ screen p.
    then-any Sized (filters s p) _ (λ filters p.
    then-any Sized (color_description s p profile) _ (λ color p.
    then-any Sized (color_sampling r s p profile color) _ (λ sampling p.
    then-any Sized (read_flag s p) _ (λ grain p. h))))))))

sequence-within : (r : Rules) (s : List ℕ) (p : ℕ) → Holds (λ q. SizesWithin q.header.coding.size) (sequence_header r s p)
unfolding sequence_header
sequence-within r s p =
    then-any (λ (q : Sequence). SizesWithin q.header.coding.size) (opening r s p) _ (λ o p.
    then-any (λ (q : Sequence). SizesWithin q.header.coding.size) (operating_points (point_count o) s p o) _ (λ xs p.
    then-holds Sized (λ (q : Sequence). SizesWithin q.header.coding.size) (coding r s p o.seq_profile (not o.reduced_still_picture_header)) _ (coding-within r s p o.seq_profile (not o.reduced_still_picture_header)) (λ c p h. h)))

pub read-within : (s : List ℕ) (q : Sequence) → parse_sequence s ≡ accepted q → SizesWithin q.header.coding.size
unfolding parse_sequence
read-within s q e = answered (λ (q : Sequence). SizesWithin q.header.coding.size) (read_sequence s) (sequence-within ours s 0) e

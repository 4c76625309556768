-- The payload of a show unit reads as show-existing of its slot.
use Prim.Native.Nat.{ℕ, ◌/◌, ◌%◌, ◌<◌}
use native.Mathlib.Omega.{arith}
use mathlib.Core.Path.{◌≡◌, ap, ◌∙◌}
use mathlib.Core.List.{List, ◌∷◌}
use mathlib.Core.Bool.{Bool, false}
use Rattle.bitio.specs.Parse.{accepted}
use Rattle.bitio.specs.Bits.{reads, read_bits}
use Rattle.bitio.proofs.BitLaws.{bits-byte, read-there}
use Rattle.syntax.specs.Syntax.{run}
use Rattle.header.specs.Sequence.{Sequence}
use Rattle.header.specs.Support.{has_point_info, support}
use Rattle.frame.specs.Frame.{show_byte, show_existing, frame_bits, frame_header, parse_frame}
use Rattle.header.specs.declared.seq_header.OperatingPoint.{OperatingPoint}
use Rattle.header.specs.declared.seq_header.SequenceHeader.{SequenceHeader}
use Rattle.frame.specs.declared.frame_header.FrameHeaderInfo.TheVariants.{Existing}
use Rattle.header.proofs.TimedLaws.{supports}

module _ (b : ℕ) (rest : List ℕ) where
  -- the first bit
  pub first_bit : read_bits (b ∷ rest) 0 1 ≡ reads (b / 128 % 2) 1
  first_bit = read-there (b ∷ rest) 0 1 (omega arith) (omega arith) ∙ ap (λ v. reads v 1) (bits-byte (b ∷ rest) 0 1 (omega arith))

  -- the next three
  pub next-three : read_bits (b ∷ rest) 1 3 ≡ reads (b / 16 % 8) 4
  next-three = read-there (b ∷ rest) 1 3 (omega arith) (omega arith) ∙ ap (λ v. reads v 4) (bits-byte (b ∷ rest) 1 3 (omega arith))

-- a header for whose sake no frame header is refused with 17 to 19
pub record Plain (h : SequenceHeader) : Type 0 where
  pub full : h.opening.reduced_still_picture_header ≡ false
  pub no_ids : h.coding.ids.frame_id_numbers_present ≡ false
  pub no_point_info : has_point_info h.opening ≡ false

-- a supported header is such
pub supported-plain : (h : SequenceHeader) → support h ≡ accepted tt → Plain h
supported-plain h e = let q = supports h e in record { full = q.full; no_ids = q.ids; no_point_info = q.points }

module _ (q : Sequence) (plain : Plain q.header) (slot : ℕ) (rest : List ℕ) where
  -- any byte that begins with a one and the slot
  pub byte_reads : (has : OperatingPoint → Bool) (b : ℕ) → b / 128 % 2 ≡ 1 → b / 16 % 8 ≡ slot → frame_header has (b ∷ rest) 0 q ≡ reads (Existing slot) 4
  unfolding run frame_header frame_bits show_existing
  byte_reads has b one k = rw (plain.full, plain.no_ids, first_bit b rest, one, next-three b rest, k, plain.no_point_info)

  -- a show unit's byte, whatever stands behind it
  pub show-reads : slot < 8 → parse_frame q (show_byte slot ∷ rest) ≡ accepted (Existing slot)
  unfolding parse_frame
  show-reads l = rw (byte_reads _ (show_byte slot) (omega arith) (omega arith))

-- the same under a supported header
pub supported-show : (q : Sequence) → support q.header ≡ accepted tt → (slot : ℕ) → slot < 8 → (rest : List ℕ) → parse_frame q (show_byte slot ∷ rest) ≡ accepted (Existing slot)
supported-show q e slot l rest = show-reads q (supported-plain q.header e) slot rest l

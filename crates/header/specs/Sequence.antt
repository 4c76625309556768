-- AV1 5.5 sequence_header_obu: the whole, as 01 reads it and as AV1 does.
use Rattle.std.specs.Prelude.{ℕ, List, not, take}
use Rattle.bitio.specs.Parse.{Answer}
use Rattle.bitio.specs.Bits.{Reading, reads, and_then}
use Rattle.bitio.specs.Fields.{answer_of}
use Rattle.header.specs.SequenceRules.{Rules, ours, av1}
use Rattle.header.specs.SequenceOpening.{opening}
use Rattle.header.specs.SequencePoints.{operating_points, point_count, padded}
use Rattle.header.specs.SequenceCoding.{coding}
use Rattle.header.specs.declared.seq_header.OperatingPoint.{OperatingPoint}
use Rattle.header.specs.declared.seq_header.SequenceHeader.{SequenceHeader}
use Rattle.header.specs.declared.seq_header.SequenceObu.{SequenceObu}

-- every field of a sequence header
pub record Sequence : Type 0 where
  pub header : SequenceHeader
  pub points : List OperatingPoint

-- 14 the bits run out, 15 profile above 2, 16 uvlc, as met; what stands behind the last field is not looked at
unfoldable pub sequence_header : Rules → List ℕ → ℕ → Reading Sequence
sequence_header r s p =
    and_then (opening r s p) (λ o p.
    and_then (operating_points (point_count o) s p o) (λ xs p.
    and_then (coding r s p o.seq_profile (not o.reduced_still_picture_header)) (λ c p.
    reads (record { header = record { opening = o; coding = c }; points = xs }) p)))

-- a payload's header, and the bit position behind its last field
abbrev pub read_sequence : List ℕ → Reading Sequence
read_sequence s = sequence_header ours s 0

-- the same by AV1's own rules
abbrev pub spec_sequence : List ℕ → Reading Sequence
spec_sequence s = sequence_header (av1 s) s 0

-- parse_sequence_header within the limit: the fields, or 14 to 16
unfoldable pub parse_sequence : List ℕ → Answer Sequence
parse_sequence s = answer_of (read_sequence s)

-- what the code answers of it: the operating points as an array of 32
abbrev pub in_array : Sequence → SequenceObu
in_array q = record { header = q.header; operating_points = padded q.points }

-- a header and the array beside it; what stands behind its last operating point is no part of it
abbrev pub sequence_of : SequenceHeader → List OperatingPoint → Sequence
sequence_of h ps = record { header = h; points = take (point_count h.opening) ps }

-- the two as they stand together
abbrev pub sequence_in : SequenceObu → Sequence
sequence_in x = sequence_of x.header x.operating_points

-- A sequence header as a payload, and that in lent memory.
use Rattle.std.specs.Prelude.{ℕ, zero, suc, ◌+◌, ◌*◌, ◌/◌, ◌^◌, List, [], ◌∷◌, ◌++◌, cond as pick, length, take, drop}
use Rattle.bitio.specs.Parse.{Answer, refused, accepted}
use Rattle.bitio.specs.Lent.{placed, lent}
use Rattle.bitio.specs.Write.{bits_of, trailing_width, trailing_bits}
use Rattle.header.specs.Sequence.{Sequence}
use Rattle.emittable.specs.PutSequence.{put_sequence}
use Rattle.emittable.specs.Emittable.{emittable}

-- bits as a number, the highest first
unfoldable pub of_bits : List ℕ → ℕ
of_bits [] = 0
of_bits (b ∷ l) = b * 2 ^ length l + of_bits l

-- so many bytes of bits
unfoldable pub pack_n : ℕ → List ℕ → List ℕ
pack_n zero l = []
pack_n (suc n) l = of_bits (take 8 l) ∷ pack_n n (drop 8 l)

-- bits as bytes, eight each
unfoldable pub pack : List ℕ → List ℕ
pack l = pack_n (length l / 8) l

-- AV1 5.3.4 trailing_bits: a one, and zeros up to a whole byte
unfoldable pub trailed : List ℕ → List ℕ
trailed l = l ++ bits_of (trailing_width (length l)) (trailing_bits (length l))

-- the payload of a header
unfoldable pub sequence_bytes : Sequence → List ℕ
sequence_bytes q = pack (trailed (put_sequence q []))

-- emit_sequence_header; 36, which 01 adds: no payload reads as these fields
unfoldable pub emitted : Sequence → Answer (List ℕ)
emitted q = pick (emittable q) (accepted (sequence_bytes q)) (refused 36)

-- the place behind the payload put into d at w; 36, then 35: no room
unfoldable pub emit_placed : List ℕ → ℕ → Sequence → Answer ℕ
emit_placed d w q = pick (emittable q) (placed d w (sequence_bytes q)) (refused 36)

-- d afterwards: with the payload, or as it was
unfoldable pub emit_lent : List ℕ → ℕ → Sequence → List ℕ
emit_lent d w q = pick (emittable q) (lent d w (sequence_bytes q)) d

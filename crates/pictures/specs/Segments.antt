-- Segments as they are ordered: ranges of the picture bytes, and frames.
use Rattle.std.specs.Prelude.{ℕ, zero, suc, List, [], map, cond as pick}
use Rattle.bitio.specs.Parse.{Answer, refused, accepted, and_next, onto}
use Rattle.blocks.specs.Numbers.{head_key, head_golden, head_frames, head_inside, rest, segment_count, is_whole}

-- 01: a segment is one key unit, one golden unit and a frame count
pub record Segment : Type 0 where
  pub key : List ℕ
  pub golden : List ℕ
  pub frames : ℕ

abbrev pub frames_of : List Segment → List ℕ
frames_of xs = map (λ x. x.frames) xs

-- the segment whose record stands at the head of rs, in the picture bytes s
abbrev pub segment_in : List ℕ → List ℕ → Segment
segment_in s rs = record { key = head_key s rs; golden = head_golden s rs; frames = head_frames rs }

-- 36: a range not within the bytes
unfoldable pub segment_at : List ℕ → List ℕ → Answer Segment
segment_at s rs = pick (head_inside s rs) (accepted (segment_in s rs)) (refused 36)

-- k segments, whose numbers follow each other
unfoldable pub segments_from : List ℕ → ℕ → List ℕ → Answer (List Segment)
segments_from s zero rs = accepted []
segments_from s (suc k) rs = and_next (segment_at s rs) (λ x. onto x (segments_from s k (rest rs)))

-- all segments; numbers that are no whole record are no range within the bytes
unfoldable pub segments_of : List ℕ → List ℕ → Answer (List Segment)
segments_of s rs = pick (is_whole rs) (segments_from s (segment_count rs) rs) (refused 36)

-- The flat numbers of the segments: what a segment's record holds, and in which order, is said here alone.
use Rattle.std.specs.Prelude.{ℕ, zero, suc, ◌*◌, ◌-◌, ◌/◌, ◌%◌, List, [], ◌∷◌, map, Bool, ◌&&◌, length, get_or, take, drop, leb, eqb}
use Rattle.obu.specs.Place.{part}
use Rattle.blocks.specs.declared.numbers.Segment.{Segment}

-- how many numbers a record has
abbrev pub width : ℕ
width = 5

-- a segment's record: where its key starts and ends in the picture bytes, where its golden does, and its frames
abbrev pub record_of : Segment → List ℕ
record_of x = x.key_start ∷ x.key_end ∷ x.golden_start ∷ x.golden_end ∷ x.frames ∷ []

-- ---- the record at the head of rs, s being the picture bytes

abbrev pub head_segment : List ℕ → Segment
head_segment rs = record { key_start = get_or rs 0 0; key_end = get_or rs 1 0; golden_start = get_or rs 2 0; golden_end = get_or rs 3 0; frames = get_or rs 4 0 }

-- what stands for a segment where there is none
abbrev pub no_segment : Segment
no_segment = head_segment []

abbrev pub head_key : List ℕ → List ℕ → List ℕ
head_key s rs = part s (head_segment rs).key_start (head_segment rs).key_end

abbrev pub head_golden : List ℕ → List ℕ → List ℕ
head_golden s rs = part s (head_segment rs).golden_start (head_segment rs).golden_end

abbrev pub head_frames : List ℕ → ℕ
head_frames rs = (head_segment rs).frames

-- the bytes from a to e lie within s
abbrev pub inside : List ℕ → ℕ → ℕ → Bool
inside s a e = leb a e && leb e (length s)

-- both units lie within s
abbrev pub head_inside : List ℕ → List ℕ → Bool
head_inside s rs =
    inside s (head_segment rs).key_start (head_segment rs).key_end && inside s (head_segment rs).golden_start (head_segment rs).golden_end

-- the numbers behind it
abbrev pub rest : List ℕ → List ℕ
rest rs = drop width rs

-- ---- all records

abbrev pub segment_count : List ℕ → ℕ
segment_count rs = length rs / width

-- the numbers are records and no more
abbrev pub is_whole : List ℕ → Bool
is_whole rs = eqb (length rs % width) 0

-- the numbers of the first n
abbrev pub first_records : ℕ → List ℕ → List ℕ
first_records n rs = take (width * n) rs

-- the numbers from record i on, at whose head it stands
abbrev pub record_at : List ℕ → ℕ → List ℕ
record_at rs i = drop (width * i) rs

-- the same from each of k records on
unfoldable pub records_from : ℕ → List ℕ → List (List ℕ)
records_from zero rs = []
records_from (suc k) rs = rs ∷ records_from k (rest rs)

-- all records, and those from i on
abbrev pub records : List ℕ → List (List ℕ)
records rs = records_from (segment_count rs) rs

abbrev pub records_behind : List ℕ → ℕ → List (List ℕ)
records_behind rs i = records_from (segment_count rs - i) (record_at rs i)

-- ---- by index

abbrev pub key_at : List ℕ → List ℕ → ℕ → List ℕ
key_at s rs i = head_key s (record_at rs i)

abbrev pub golden_at : List ℕ → List ℕ → ℕ → List ℕ
golden_at s rs i = head_golden s (record_at rs i)

abbrev pub frames_at : List ℕ → ℕ → ℕ
frames_at rs i = head_frames (record_at rs i)

-- the frames of all segments
abbrev pub frames_in : List ℕ → List ℕ
frames_in rs = map head_frames (records rs)

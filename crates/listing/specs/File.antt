-- The file that boardlist reads (01, 'Unit list and cue list').
use Rattle.std.specs.Prelude.{ℕ, zero, suc, ◌+◌, ◌*◌, ◌≤◌, ◌≡◌, List, [], ◌++◌, Bool, cond as pick, ◌&&◌, length, get_or, leb, eqb, Option, Some, None}
use Rattle.bitio.specs.Lent.{has_room, lent}
use Rattle.blocks.specs.Numbers.{width, record_of}
use Rattle.listing.specs.declared.file.Layout.{Layout}

-- ---- numbers

-- 01: integers little-endian. The number of n bytes at a place; a byte that is not there counts as 0
unfoldable pub number_at : List ℕ → ℕ → ℕ → ℕ
number_at s at zero = 0
number_at s at (suc n) = get_or s at 0 + 256 * number_at s (suc at) n

abbrev pub u32_at : List ℕ → ℕ → ℕ
u32_at s at = number_at s at 4

abbrev pub u64_at : List ℕ → ℕ → ℕ
u64_at s at = number_at s at 8

-- ---- where things stand: three sections, led by their counts

abbrev pub picture_count : List ℕ → ℕ
picture_count s = u32_at s 0

abbrev pub file_segments : List ℕ → ℕ
file_segments s = u32_at s (4 + picture_count s)

-- the first segment, behind both counts and the picture bytes
abbrev pub segments_at : List ℕ → ℕ
segments_at s = 8 + picture_count s

-- the settings' count, behind 16 bytes a segment
abbrev pub settings_at : List ℕ → ℕ
settings_at s = segments_at s + 16 * file_segments s

-- 01: gop_size, fps, fps_den, u64 each
abbrev pub gop_at : List ℕ → ℕ
gop_at s = u64_at s (settings_at s + 4)

abbrev pub fps_at : List ℕ → ℕ
fps_at s = u64_at s (settings_at s + 12)

abbrev pub den_at : List ℕ → ℕ
den_at s = u64_at s (settings_at s + 20)

-- ---- a segment: two lengths of four bytes, then its frames in eight

abbrev pub key_length : List ℕ → ℕ → ℕ
key_length s q = u32_at s q

abbrev pub golden_length : List ℕ → ℕ → ℕ
golden_length s q = u32_at s (q + 4)

abbrev pub file_frames : List ℕ → ℕ → ℕ
file_frames s q = u64_at s (q + 8)

-- the bytes of the units of k segments, of which the first stands at q
unfoldable pub units_length : List ℕ → ℕ → ℕ → ℕ
units_length s zero q = 0
units_length s (suc k) q = key_length s q + golden_length s q + units_length s k (q + 16)

-- the golden of the segment at q ends here, if its key starts at a
abbrev pub segment_end : List ℕ → ℕ → ℕ → ℕ
segment_end s q a = a + key_length s q + golden_length s q

-- its record: the golden starts where the key ends
abbrev pub segment_numbers : List ℕ → ℕ → ℕ → List ℕ
segment_numbers s q a =
    record_of (record {
      key_start = a;
      key_end = a + key_length s q;
      golden_start = a + key_length s q;
      golden_end = segment_end s q a;
      frames = file_frames s q;
    })

-- 01: units lie in segment order: those of k segments, the first standing at q and its key starting at a
unfoldable pub file_numbers_from : List ℕ → ℕ → ℕ → ℕ → List ℕ
file_numbers_from s zero q a = []
file_numbers_from s (suc k) q a = segment_numbers s q a ++ file_numbers_from s k (q + 16) (segment_end s q a)

abbrev pub file_numbers : List ℕ → List ℕ
file_numbers s = file_numbers_from s (file_segments s) (segments_at s) 0

-- ---- 01: a short, long or unfit file

-- 65,536 bytes at most; as long as its sections; a settings count of 3; units that fill the picture bytes exactly; fps and
-- fps_den fit a u32, as in AssembleParams, gop_size a u64
unfoldable pub is_file : List ℕ → Bool
is_file s =
    leb (length s) 65536
    && eqb (length s) (settings_at s + 28)
    && eqb (u32_at s (settings_at s)) 3
    && eqb (units_length s (file_segments s) (segments_at s)) (picture_count s)
    && leb (fps_at s) 4294967295
    && leb (den_at s) 4294967295

abbrev pub layout_of : List ℕ → Layout
layout_of s =
    record {
      start = 4;
      end = 4 + picture_count s;
      segments = file_segments s;
      settings = record { gop = gop_at s; fps = fps_at s; den = den_at s };
    }

-- what any bytes say as a file
abbrev pub layout_in : List ℕ → Option Layout
layout_in s = pick (is_file s) (Some (layout_of s)) None

-- ---- reading a file, the segments' numbers going into lent memory d

pub data FileReading : Type 0 where
  bad : FileReading
  full : FileReading
  read_layout : Layout → FileReading

unfoldable pub read_into : List ℕ → List ℕ → FileReading
read_into d s = pick (is_file s) (pick (has_room d 0 (file_numbers s)) (read_layout (layout_of s)) full) bad

-- d afterwards
unfoldable pub file_numbers_after : List ℕ → List ℕ → List ℕ
file_numbers_after d s = pick (is_file s) (lent d 0 (file_numbers s)) d

-- ---- what the functions behind the first tests are told

-- so many segments stand at `from`
pub record Records (s : List ℕ) (from count : ℕ) : Type 0 where
  pub small : length s ≤ 65536
  pub there : from + 16 * count ≤ length s

-- the two counts, and that the file is as long as its sections
pub record FileSized (s : List ℕ) (picture count : ℕ) : Type 0 where
  pub small : length s ≤ 65536
  pub pictures : picture ≡ picture_count s
  pub segments : count ≡ file_segments s
  pub whole : length s ≡ settings_at s + 28

-- ---- what a layout promises to those that use it

-- the picture bytes lie within the file, and the numbers of all segments are there
pub record LayoutFits (l : Layout) (s numbers : List ℕ) : Type 0 where
  pub start_first : l.start ≤ l.end
  pub picture : l.end ≤ length s
  pub numbers-there : width * l.segments ≤ length numbers

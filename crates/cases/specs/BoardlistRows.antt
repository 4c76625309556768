-- boardlist's file and text.
use Rattle.std.specs.Prelude.{ℕ, List, [], ◌∷◌, ◌++◌, map, length, take, replicate}
use Rattle.bitio.specs.Parse.{Answer, refused, accepted}
use Rattle.obu.specs.Unit.{count}
use mir.Val.{bool_byte}
use Rattle.pictures.specs.Assemble.{Output}
use Rattle.assemble.specs.Examples.{picture_kg, ranges_kg, output_kg, output_two}
use Rattle.listing.specs.File.{is_file, FileReading, read_layout, full, bad, read_into, file_numbers_after}
use Rattle.listing.specs.Decimal.{decimal}
use Rattle.listing.specs.Text.{listing, refused_text, refused_in_text}
use Rattle.cases.specs.Rows.{Row}

abbrev u32 : ℕ → List ℕ
u32 n = n ∷ 0 ∷ 0 ∷ 0 ∷ []

abbrev u64 : ℕ → List ℕ
u64 n = n ∷ 0 ∷ 0 ∷ 0 ∷ 0 ∷ 0 ∷ 0 ∷ 0 ∷ []

abbrev file_segment : ℕ → ℕ → ℕ → List ℕ
file_segment key golden frames = u32 key ++ u32 golden ++ u64 frames

abbrev file_settings : ℕ → ℕ → ℕ → ℕ → List ℕ
file_settings count gop fps den = u32 count ++ u64 gop ++ u64 fps ++ u64 den

-- 01's file
abbrev file_kg : List ℕ
file_kg = u32 44 ++ picture_kg ++ u32 2 ++ file_segment 16 6 4 ++ file_segment 16 6 1 ++ file_settings 3 3 25 1

-- a picture of two bytes, and one segment whose units have so many
abbrev small : ℕ → ℕ → List ℕ → List ℕ
small key golden set = u32 2 ++ (0 ∷ 0 ∷ []) ++ u32 1 ++ file_segment key golden 9 ++ set

-- a file read: its layout; 35 without room for its numbers, 0 for no file
abbrev layout_told : FileReading → Answer (List (List ℕ))
layout_told bad = refused 0
layout_told full = refused 35
layout_told (read_layout l) = accepted ((l.start ∷ l.end ∷ l.segments ∷ l.settings.gop ∷ l.settings.fps ∷ l.settings.den ∷ []) ∷ [])

-- a 1 for each that is a file, else a 0
abbrev are_files : List (List ℕ) → Answer (List (List ℕ))
are_files files = accepted (map (λ s. bool_byte (is_file s)) files ∷ [])

abbrev listing_of : Output → List ℕ
listing_of o = listing o.list (length o.cues) o.picture o.ends o.shows

-- ---- the rows

abbrev pub boardlist_rows : List Row
boardlist_rows =
    -- 01's file with as much room for its ten numbers as is needed, and with one less; no file
    (layout_told (read_into (replicate 10 7) file_kg), accepted ((4 ∷ 48 ∷ 2 ∷ 3 ∷ 25 ∷ 1 ∷ []) ∷ []))
    ∷ (layout_told (read_into (replicate 9 7) file_kg), refused 35)
    ∷ (layout_told (read_into [] []), refused 0)
    -- the numbers afterwards, one more being there; without room; of no file
    ∷ (
      accepted (file_numbers_after (replicate 11 7) file_kg ∷ file_numbers_after (replicate 9 7) file_kg ∷ file_numbers_after (replicate 3 7) [] ∷ []),
      accepted ((ranges_kg 4 1 ++ (7 ∷ [])) ∷ replicate 9 7 ∷ replicate 3 7 ∷ []),
    )
    -- no picture bytes and no segments; all in the key, in the golden; the largest gop_size, fps and fps_den
    ∷ (
      are_files (
          (u32 0 ++ u32 0 ++ file_settings 3 0 0 0)
          ∷ small 2 0 (file_settings 3 1 1 1) ∷ small 0 2 (file_settings 3 1 1 1)
          ∷ small 1 1 (u32 3 ++ replicate 8 255 ++ (replicate 4 255 ++ replicate 4 0) ++ (replicate 4 255 ++ replicate 4 0)) ∷ []),
      accepted ((1 ∷ 1 ∷ 1 ∷ 1 ∷ []) ∷ []),
    )
    -- short: nothing, a count, one byte less; long: one byte more
    ∷ (are_files ([] ∷ u32 0 ∷ take 111 file_kg ∷ (file_kg ++ (0 ∷ [])) ∷ []), accepted ((0 ∷ 0 ∷ 0 ∷ 0 ∷ []) ∷ []))
    -- a count past the end: of picture bytes, of segments; a settings count of 2 and of 4
    ∷ (
      are_files (
          (replicate 4 255 ++ u32 0 ++ file_settings 3 0 0 0) ∷ (u32 0 ++ replicate 4 255 ++ file_settings 3 0 0 0)
          ∷ small 1 1 (file_settings 2 1 1 1) ∷ small 1 1 (file_settings 4 1 1 1) ∷ []),
      accepted ((0 ∷ 0 ∷ 0 ∷ 0 ∷ []) ∷ []),
    )
    -- units of fewer and of more bytes than the picture bytes, and none
    ∷ (
      are_files (small 1 0 (file_settings 3 1 1 1) ∷ small 2 1 (file_settings 3 1 1 1) ∷ (u32 2 ++ (0 ∷ 0 ∷ []) ++ u32 0 ++ file_settings 3 1 1 1) ∷ []),
      accepted ((0 ∷ 0 ∷ 0 ∷ []) ∷ []),
    )
    -- fps and fps_den of 2 ^ 32
    ∷ (
      are_files (
          small 1 1 (u32 3 ++ u64 1 ++ (replicate 4 0 ++ u32 1) ++ u64 1)
          ∷ small 1 1 (u32 3 ++ u64 1 ++ u64 1 ++ (replicate 4 0 ++ u32 1)) ∷ []),
      accepted ((0 ∷ 0 ∷ []) ∷ []),
    )
    -- 01's listing, and that of two segments that differ
    ∷ (
      accepted (listing_of output_kg ∷ listing_of output_two ∷ []),
      accepted (
          (117 ∷ 110 ∷ 105 ∷ 116 ∷ 115 ∷ 32 ∷ 53 ∷ 10  -- units 5
          ∷ 99 ∷ 117 ∷ 101 ∷ 115 ∷ 32 ∷ 50 ∷ 10  -- cues 2
          ∷ 49 ∷ 32 ∷ 75 ∷ 32 ∷ 48 ∷ 32 ∷ 45 ∷ 32 ∷ 50 ∷ 52 ∷ 10  -- 1 K 0 - 24
          ∷ 50 ∷ 32 ∷ 71 ∷ 32 ∷ 48 ∷ 32 ∷ 51 ∷ 32 ∷ 54 ∷ 10  -- 2 G 0 3 6
          ∷ 51 ∷ 32 ∷ 83 ∷ 32 ∷ 48 ∷ 32 ∷ 51 ∷ 32 ∷ 53 ∷ 10  -- 3 S 0 3 5
          ∷ 52 ∷ 32 ∷ 83 ∷ 32 ∷ 48 ∷ 32 ∷ 51 ∷ 32 ∷ 53 ∷ 10  -- 4 S 0 3 5
          ∷ 53 ∷ 32 ∷ 75 ∷ 32 ∷ 49 ∷ 32 ∷ 45 ∷ 32 ∷ 50 ∷ 52 ∷ 10  -- 5 K 1 - 24
          ∷ [])
          ∷ (117 ∷ 110 ∷ 105 ∷ 116 ∷ 115 ∷ 32 ∷ 55 ∷ 10  -- units 7
          ∷ 99 ∷ 117 ∷ 101 ∷ 115 ∷ 32 ∷ 50 ∷ 10  -- cues 2
          ∷ 49 ∷ 32 ∷ 75 ∷ 32 ∷ 48 ∷ 32 ∷ 45 ∷ 32 ∷ 50 ∷ 52 ∷ 10  -- 1 K 0 - 24
          ∷ 50 ∷ 32 ∷ 71 ∷ 32 ∷ 48 ∷ 32 ∷ 51 ∷ 32 ∷ 54 ∷ 10  -- 2 G 0 3 6
          ∷ 51 ∷ 32 ∷ 83 ∷ 32 ∷ 48 ∷ 32 ∷ 51 ∷ 32 ∷ 53 ∷ 10  -- 3 S 0 3 5
          ∷ 52 ∷ 32 ∷ 83 ∷ 32 ∷ 48 ∷ 32 ∷ 51 ∷ 32 ∷ 53 ∷ 10  -- 4 S 0 3 5
          ∷ 53 ∷ 32 ∷ 75 ∷ 32 ∷ 49 ∷ 32 ∷ 45 ∷ 32 ∷ 50 ∷ 53 ∷ 10  -- 5 K 1 - 25
          ∷ 54 ∷ 32 ∷ 71 ∷ 32 ∷ 49 ∷ 32 ∷ 53 ∷ 32 ∷ 55 ∷ 10  -- 6 G 1 5 7
          ∷ 55 ∷ 32 ∷ 83 ∷ 32 ∷ 49 ∷ 32 ∷ 53 ∷ 32 ∷ 53 ∷ 10  -- 7 S 1 5 5
          ∷ [])
          ∷ []),
    )
    -- decimals
    ∷ (
      accepted (map decimal (0 ∷ 9 ∷ 10 ∷ 100 ∷ 65536 ∷ [])),
      accepted ((48 ∷ []) ∷ (57 ∷ []) ∷ (49 ∷ 48 ∷ []) ∷ (49 ∷ 48 ∷ 48 ∷ []) ∷ (54 ∷ 53 ∷ 53 ∷ 51 ∷ 54 ∷ []) ∷ []),
    )
    -- `refused 35` and `refused 24 segment 10`
    ∷ (
      accepted (refused_text 35 ∷ refused_in_text 24 10 ∷ []),
      accepted (
          (114 ∷ 101 ∷ 102 ∷ 117 ∷ 115 ∷ 101 ∷ 100 ∷ 32 ∷ 51 ∷ 53 ∷ 10 ∷ [])
          ∷ (114 ∷ 101 ∷ 102 ∷ 117 ∷ 115 ∷ 101 ∷ 100 ∷ 32 ∷ 50 ∷ 52 ∷ 32 ∷ 115 ∷ 101 ∷ 103 ∷ 109 ∷ 101 ∷ 110 ∷ 116 ∷ 32 ∷ 49 ∷ 48 ∷ 10 ∷ []) ∷ []),
    )
    ∷ []

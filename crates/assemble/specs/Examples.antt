-- Three lists to work with, and what assembly hands out for them: 01's own, and two segments that differ in every unit, untimed and timed.
use Rattle.std.specs.Prelude.{ℕ, List, [], ◌∷◌, ◌++◌}
use Rattle.pictures.specs.Segments.{Segment}
use Rattle.pictures.specs.Prepare.{show_unit}
use Rattle.pictures.specs.declared.settings.Settings.{Settings}
use Rattle.pictures.specs.Assemble.{Output, OutputRoom}

-- the payload of K's sequence header
abbrev pub payload_k : List ℕ
payload_k = 0x00 ∷ 0x00 ∷ 0x00 ∷ 0x01 ∷ 0x9F ∷ 0xF8 ∷ 0x00 ∷ 0x00 ∷ 0x10 ∷ []

-- a board: its units, and its frames
abbrev pub ordered : List ℕ → List ℕ → ℕ → Segment
ordered k g n = record { key = k; golden = g; frames = n }

-- 01's K and G, and K with its header timed 25/1
abbrev pub unit_k : List ℕ
unit_k = 0x12 ∷ 0x00 ∷ 0x0A ∷ 0x09 ∷ 0x00 ∷ 0x00 ∷ 0x00 ∷ 0x01 ∷ 0x9F ∷ 0xF8 ∷ 0x00 ∷ 0x00 ∷ 0x10 ∷ 0x32 ∷ 0x01 ∷ 0x10 ∷ []

abbrev pub unit_g : List ℕ
unit_g = 0x12 ∷ 0x00 ∷ 0x32 ∷ 0x02 ∷ 0x38 ∷ 0x10 ∷ []

abbrev pub timed_payload : List ℕ
timed_payload =
    0x04 ∷ 0x00 ∷ 0x00 ∷ 0x00 ∷ 0x04 ∷ 0x00 ∷ 0x00 ∷ 0x00 ∷ 0x67 ∷ 0x00 ∷ 0x00 ∷ 0x00 ∷ 0x33 ∷ 0xFF ∷ 0x00 ∷ 0x00 ∷ 0x02 ∷ []

abbrev pub timed_header : List ℕ
timed_header = 0x0A ∷ 0x11 ∷ timed_payload

abbrev pub timed_k : List ℕ
timed_k = (0x12 ∷ 0x00 ∷ []) ++ timed_header ++ (0x32 ∷ 0x01 ∷ 0x10 ∷ [])

-- 01: K G K G, frames 4 and 1
abbrev pub picture_kg : List ℕ
picture_kg = unit_k ++ unit_g ++ unit_k ++ unit_g

abbrev pub ranges_kg : ℕ → ℕ → List ℕ
ranges_kg n m = 0 ∷ 16 ∷ 16 ∷ 22 ∷ n ∷ 22 ∷ 38 ∷ 38 ∷ 44 ∷ m ∷ []

-- as much as is needed, and no more
abbrev pub room_kg : OutputRoom
room_kg = record { list = 5; cues = 2; picture = 60; ends = 4; shows = 10; header = 19 }

abbrev pub output_kg : Output
output_kg =
    record {
      list = 0 ∷ 1 ∷ 2 ∷ 2 ∷ 4 ∷ [];
      cues = 1 ∷ 5 ∷ [];
      picture = timed_k ++ unit_g ++ timed_k ++ unit_g;
      ends = 24 ∷ 30 ∷ 54 ∷ 60 ∷ [];
      shows = 0x12 ∷ 0x00 ∷ 0x1A ∷ 0x01 ∷ 0xB8 ∷ 0x12 ∷ 0x00 ∷ 0x1A ∷ 0x01 ∷ 0xB8 ∷ [];
      header = timed_header;
      slot = 3;
    }

-- 01's settings 3, 25, 1
abbrev pub settings_kg : Settings
settings_kg = record { gop = 3; fps = 25; den = 1 }

-- ---- two segments that differ in every unit

-- another key and golden: bytes behind the frame headers, and a golden that refreshes slots 5 and 7; and that key timed
abbrev pub other_k : List ℕ
other_k = 0x12 ∷ 0x00 ∷ 0x0A ∷ 0x09 ∷ 0x00 ∷ 0x00 ∷ 0x00 ∷ 0x01 ∷ 0x9F ∷ 0xF8 ∷ 0x00 ∷ 0x00 ∷ 0x10 ∷ 0x32 ∷ 0x02 ∷ 0x10 ∷ 0xAB ∷ []

abbrev pub other_g : List ℕ
other_g = 0x12 ∷ 0x00 ∷ 0x32 ∷ 0x03 ∷ 0x39 ∷ 0x40 ∷ 0xCD ∷ []

abbrev pub timed_other_k : List ℕ
timed_other_k = (0x12 ∷ 0x00 ∷ []) ++ timed_header ++ (0x32 ∷ 0x02 ∷ 0x10 ∷ 0xAB ∷ [])

-- untimed, and timed already
abbrev pub picture_two : List ℕ
picture_two = unit_k ++ unit_g ++ other_k ++ other_g

abbrev pub ranges_two : List ℕ
ranges_two = 0 ∷ 16 ∷ 16 ∷ 22 ∷ 4 ∷ 22 ∷ 39 ∷ 39 ∷ 46 ∷ 3 ∷ []

abbrev pub picture_timed : List ℕ
picture_timed = timed_k ++ unit_g ++ timed_other_k ++ other_g

abbrev pub ranges_timed : List ℕ
ranges_timed = 0 ∷ 24 ∷ 24 ∷ 30 ∷ 4 ∷ 30 ∷ 55 ∷ 55 ∷ 62 ∷ 3 ∷ []

abbrev pub room_two : OutputRoom
room_two = record { list = 7; cues = 2; picture = 62; ends = 4; shows = 10; header = 19 }

abbrev pub output_two : Output
output_two =
    record {
      list = 0 ∷ 1 ∷ 2 ∷ 2 ∷ 4 ∷ 5 ∷ 6 ∷ [];
      cues = 1 ∷ 5 ∷ [];
      picture = picture_timed;
      ends = 24 ∷ 30 ∷ 55 ∷ 62 ∷ [];
      shows = show_unit 3 ++ show_unit 5;
      header = timed_header;
      slot = 3;
    }

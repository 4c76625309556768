-- Constant-rate timing.
use Rattle.std.specs.Prelude.{ℕ, Bool, true, cond as pick, eqb}
use Rattle.bitio.specs.Parse.{Answer, refused, accepted}
use Rattle.header.specs.Sequence.{Sequence}
use Rattle.header.specs.declared.seq_header.TimingInfo.{TimingInfo}
use Rattle.header.specs.declared.seq_header.Opening.{Opening}
use Rattle.header.specs.declared.seq_header.SequenceHeader.{SequenceHeader}

-- timing info is there
abbrev pub is_timed : SequenceHeader → Bool
is_timed h = h.opening.timing.timing_info_present

-- 0 counts as 1
abbrev pub at_least_one : ℕ → ℕ
at_least_one n = pick (eqb n 0) 1 n

-- num frames in den seconds: equal intervals of one tick
abbrev pub rate : ℕ → ℕ → TimingInfo
rate num den =
    record {
      timing_info_present = true;
      num_units_in_display_tick = at_least_one den;
      time_scale = at_least_one num;
      equal_picture_interval = true;
      num_ticks_per_picture_minus_1 = 0;
    }

-- o with this timing, whatever timing it had; all else, a decoder model too, is as it was
unfoldable pub retimed : TimingInfo → Opening → Opening
retimed t o =
    record {
      seq_profile = o.seq_profile;
      still_picture = o.still_picture;
      reduced_still_picture_header = o.reduced_still_picture_header;
      timing = t;
      model = o.model;
      initial_display_delay_present = o.initial_display_delay_present;
      operating_points_cnt_minus_1 = o.operating_points_cnt_minus_1;
    }

unfoldable pub with_timing : ℕ → ℕ → SequenceHeader → SequenceHeader
with_timing num den h = record { opening = retimed (rate num den) h.opening; coding = h.coding }

-- with_timing_info_rate; 17, which 01 adds: a reduced header has no timing info
unfoldable pub timed : ℕ → ℕ → SequenceHeader → Answer SequenceHeader
timed num den h = pick h.opening.reduced_still_picture_header (refused 17) (accepted (with_timing num den h))

-- a header with its operating points, timed at num frames in den seconds
abbrev pub timed_at : ℕ → ℕ → Sequence → Sequence
timed_at num den q = record { header = with_timing num den q.header; points = q.points }

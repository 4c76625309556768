-- Frames one behind the other, scanned under one sequence header from empty slots, each from the slots that the one before it left.
use Rattle.std.specs.Prelude.{ℕ, zero, suc, ◌+◌, ◌%◌, ◌^◌, List, length}
use Rattle.bitio.specs.Parse.{Answer, refused, accepted, and_next}
use Rattle.bitio.specs.Limits.{limited}
use Rattle.obu.specs.Place.{part_in}
use Rattle.header.specs.Sequence.{parse_sequence}
use Rattle.header.specs.declared.seq_header.SequenceHeader.{SequenceHeader}
use Rattle.frame.specs.Frame.{modelled, removals}
use Rattle.geometry.specs.declared.slots.RefSlot.{RefSlot}
use Rattle.uheader.specs.Scan.{scan_header, slots_after, empty_slots}
use Rattle.uheader.specs.declared.scan.HeaderScan.{HeaderScan}
use Rattle.bench.specs.Counts.{bytes_or_none}

-- where a header ends, 0 for a refused one
abbrev pub end_or : Answer HeaderScan → ℕ
end_or (refused k) = 0
end_or (accepted x) = x.end_pos

-- t and the ends of k frames from i on, modulo 2^64, each with n removal times
unfoldable pub sum_from : SequenceHeader → ℕ → List ℕ → List ℕ → (k i : ℕ) → List RefSlot → ℕ → ℕ
sum_from h n f es zero i slots t = t
sum_from h n f es (suc k) i slots t =
    sum_from h n f es k (i + 1) (slots_after slots (scan_header h n slots (part_in f es i)))
    ((t + end_or (scan_header h n slots (part_in f es i))) % 2 ^ 64)

abbrev pub sum_of : SequenceHeader → ℕ → List ℕ → List ℕ → ℕ
sum_of h n f es = sum_from h n f es (length es) 0 empty_slots 0

-- 0 where the sequence header is refused
abbrev pub scan_sum : List ℕ → List ℕ → List ℕ → ℕ
scan_sum s f es = bytes_or_none (limited s (and_next (parse_sequence s) (λ q. accepted (sum_of q.header (removals modelled q) f es))))

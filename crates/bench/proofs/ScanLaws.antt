-- The loop that scans frames one behind the other: what was summed so far, and then the frames that are left, is the whole.
use Rattle.std.proofs.Common.{◌≡◌, ℕ, suc, ◌+◌, ◌-◌, ◌%◌, ◌^◌, ◌<◌, ◌≤◌, List, length, ap, ◌∙◌, arith}
use Rattle.obu.specs.Place.{part_in}
use Rattle.header.specs.declared.seq_header.SequenceHeader.{SequenceHeader}
use Rattle.geometry.specs.declared.slots.RefSlot.{RefSlot}
use Rattle.uheader.specs.Scan.{scan_header, slots_after}
use Rattle.bench.specs.Scans.{end_or, sum_from, sum_of}

-- the frames from i on are left
pub record Left (h : SequenceHeader) (n : ℕ) (f es : List ℕ) (slots : List RefSlot) (t i : ℕ) : Type 0 where
  pub whole : sum_from h n f es (length es - i) i slots t ≡ sum_of h n f es

module _ {h : SequenceHeader} {n : ℕ} {f es : List ℕ} {slots : List RefSlot} {t i : ℕ} (left : Left h n f es slots t i) where
  -- none is left
  pub left-none : length es ≤ i → t ≡ sum_of h n f es
  unfolding sum_from
  left-none l =
      let k : 0 ≡ length es - i = omega arith in
      ap (λ k. sum_from h n f es k i slots t) k ∙ left.whole

  -- frame i, and those behind it
  pub left-next : i < length es
      → let x = scan_header h n slots (part_in f es i) in
      sum_from h n f es (length es - (i + 1)) (i + 1) (slots_after slots x) ((t + end_or x) % 2 ^ 64) ≡ sum_of h n f es
  unfolding sum_from
  left-next l =
      let k : suc (length es - (i + 1)) ≡ length es - i = omega arith in
      ap (λ k. sum_from h n f es k i slots t) k ∙ left.whole

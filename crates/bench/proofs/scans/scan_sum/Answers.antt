use Rattle.std.proofs.Common.{ℕ, List, ap, ◌∙◌}
use Rattle.bitio.specs.Parse.{Answer, accepted}
use Rattle.header.specs.Sequence.{Sequence}
use Rattle.frame.proofs.RemovalLaws.{removals-counted}
use Rattle.frame.specs.Frame.{modelled, removals}
use Rattle.header.proofs.LimitedLaws.{limited-read}
use Rattle.frame.proofs.FrameFromLaws.{beside-read, beside-refused, beside-whole}
use Rattle.uheader.proofs.WithinLaws.{read-within}
use Rattle.bench.specs.Counts.{bytes_or_none}
use Rattle.bench.specs.Scans.{sum_of}
use Rattle.bench.proofs.scans.scan_sum.Goals as goal

-- the frames under each header, with the Rust's removal times
abbrev sums : List ℕ → List ℕ → Sequence → Answer ℕ
sums f es q = accepted (sum_of q.header (removals modelled q) f es)

pub invariant_of-scanner : goal.invariant_of-scanner
invariant_of-scanner c =
    let s = c.args.sequence.now in
    record { sized = read-within s _ (limited-read s _ (beside-whole s _ c.in-Ok.ensures)) }

pub returns-in-Ok : goal.returns-in-Ok
returns-in-Ok c =
    let a = c.args in
    rw (removals-counted c.in-Ok.sequence c.removals.ensures c.points.ensures.points) at c.sum_ends.ensures
    ∙ ap bytes_or_none (beside-read a.sequence.now (sums a.frames.now a.ends.now) _ c.in-Ok.ensures)

pub returns-in-Err : goal.returns-in-Err
returns-in-Err c =
    let a = c.args in
    ap bytes_or_none (beside-refused a.sequence.now (sums a.frames.now a.ends.now) _ c.in-Err.ensures)

use Rattle.std.proofs.Common.{◌≡◌, arith, rules}
use Rattle.bitio.specs.Refusal.{says}
use Rattle.bench.specs.Scans.{end_or}
use Rattle.bench.proofs.ScanLaws.{left-none, left-next}
use Rattle.bench.proofs.scans.sum_ends.Goals as goal

pub loop-i-preserved : goal.loop-i-preserved
loop-i-preserved c =
    let e : c.map_or-total.result ≡ end_or (says c.scan_header-scanned.result) = search rules in
    let z = left-next c.loop-i.invariant (omega arith) in
    let z = rw (← c.part_in.ensures, ← c.scan_header-scanned.ensures.slots, ← c.scan_header-scanned.ensures.answer, ← e) at z in
    record { whole = z }

pub returns : goal.returns
returns c = left-none c.loop-i.invariant (omega arith)

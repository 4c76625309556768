use Rattle.bench.proofs.ScanLaws.{Left}
use Rattle.bench.proofs.scans.sum_ends.Given as goal

abbrev pub invariant-loop-i : goal.invariant-loop-i
invariant-loop-i l = Left l.scanner.header.now l.scanner.removals l.frames l.ends l.slots l.total l.i

use Rattle.std.proofs.Common.{rules, ◌∙◌, arith}
use Rattle.protocol.specs.Answers.{numbers_told}
use Rattle.replay_scan.proofs.ScanLaws.{scan-next, scan-end}
use Rattle.replay_scan.proofs.scan_ops.scan_all.Goals as goal

pub loop-i-preserved : goal.loop-i-preserved
loop-i-preserved c =
    let l = c.loop-i in
    let z = scan-next c.args.sequence.now c.args.s.now c.args.ends.now (numbers_told l.told) l.slots l.i (omega arith) in
    let z = rw (← c.part_in.ensures, ← c.scan_uncompressed_header-scanned.ensures.slots, ← c.scan_uncompressed_header-scanned.ensures.answer, ← c.put_frame.ensures.told) at z in
    record { left = z ∙ l.invariant.left; lent = c.put_frame.ensures.lent ∙ l.invariant.lent }

pub returns : goal.returns
returns c =
    let l = c.loop-i in
    let e = c.put_slots.ensures.told ∙ scan-end _ _ _ _ l.slots l.i (omega arith) ∙ l.invariant.left in
    search (rules, e)

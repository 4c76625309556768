use Rattle.std.proofs.Common.{arith}
use lib.Seq.{take_all}
use Rattle.geometry.specs.Slots.{empty_slot}
use Rattle.protocol.proofs.AnswerLaws.{tells_none, tells_then}
use Rattle.replay_scan.specs.Scans.{slots_fields}
use Rattle.replay_scan.proofs.ScanLaws.{slot_more}
use Rattle.replay_scan.proofs.scan_fields.put_slots.Goals as goal

pub loop-slot-init : goal.loop-slot-init
loop-slot-init c = tells_none _

pub loop-slot-preserved : goal.loop-slot-preserved
loop-slot-preserved c =
    let l = c.loop-slot in
    let t = tells_then _ _ _ l.invariant c.put_slot.ensures in
    rw (slot_more c.args.slots.now l.slot-index empty_slot (omega arith)) at t

pub returns : goal.returns
unfolding slots_fields
returns c =
    let l = c.loop-slot in
    let all = take_all l.slot-index c.args.slots.now (omega arith) in
    tells_then _ _ _ (rw c.from.ensures.0 at c.put_pair.ensures) (rw all at l.invariant)

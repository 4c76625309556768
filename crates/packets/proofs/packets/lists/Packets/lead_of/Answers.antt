use Rattle.std.proofs.Common.{arith}
use Rattle.packets.specs.code.PacketRuns.{waiting, closing, behind}
use Rattle.packets.proofs.PacketPieceLaws.{front-run, back-run, lead-yes, lead-no}
use Rattle.packets.proofs.packets.lists.Packets.lead_of.Goals as goal

pub head_of-head-requires : goal.head_of-head-requires
head_of-head-requires c = front-run c.requires.all

pub returns-then-lead_end-gt0 : goal.returns-then-lead_end-gt0
returns-then-lead_end-gt0 c = waiting c.head_of-head.ensures (lead-yes c.lead_end.ensures (omega arith))

pub returns-then-lead_end-gt0-2 : goal.returns-then-lead_end-gt0-2
returns-then-lead_end-gt0-2 c =
    let y = lead-yes c.lead_end-2.ensures (omega arith) in
    rw c.unit-closing.ensures (closing c.head_of-head.ensures (lead-no c.lead_end.ensures (omega arith)) (rw c.unit-closing.ensures at y))

pub overflow_add-place : goal.overflow_add-place
overflow_add-place c = let p = c.requires.all in omega (arith, p.after, p.within)

pub head_of-requires : goal.head_of-requires
head_of-requires c = back-run c.requires.all

pub returns : goal.returns
returns c =
    let n = lead-no c.lead_end-2.ensures (omega arith) in
    behind c.head_of-head.ensures (lead-no c.lead_end.ensures (omega arith)) (rw c.unit-closing.ensures at n) c.head_of.ensures

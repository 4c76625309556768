use Rattle.std.proofs.Common.{arith}
use Rattle.playback.proofs.GatherLaws.{left-next, left-none, putting-start, putting-room, putting-small, putting-slot, putting-next, putting-end}
use Rattle.playback.proofs.gather.put_units.Goals as goal

pub loop-i-init : goal.loop-i-init
loop-i-init c = putting-start c.requires

pub put_bytes-at-requires : goal.put_bytes-at-requires
put_bytes-at-requires c = putting-room c.loop-i.invariant (left-next c.args.listed c.loop-i.i (omega arith)) c.named.ensures

pub overflow_cast-unit_ends : goal.overflow_cast-unit_ends
overflow_cast-unit_ends c =
    omega (arith, putting-small c.loop-i.invariant (left-next c.args.listed c.loop-i.i (omega arith)) c.named.ensures c.put_bytes-at.ensures.0)

pub bounds-unit_ends-i : goal.bounds-unit_ends-i
bounds-unit_ends-i c = putting-slot c.loop-i.invariant (left-next c.args.listed c.loop-i.i (omega arith)) c.named.ensures

pub loop-i-preserved : goal.loop-i-preserved
loop-i-preserved c =
    putting-next c.loop-i.invariant (left-next c.args.listed c.loop-i.i (omega arith)) c.named.ensures c.put_bytes-at.ensures.0 c.put_bytes-at.ensures.1

pub returns : goal.returns
returns c =
    let e = putting-end c.loop-i.invariant (left-none c.args.listed c.loop-i.i (omega arith)) in
    record { units_after = e.0; unit_ends_after = e.1 }

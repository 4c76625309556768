use Rattle.std.proofs.Common.{arith}
use Rattle.emit.proofs.WroteLaws.{wrote-first, wrote-point}
use Rattle.emit.proofs.seq_header.payload.Payload.put_points.Goals as goal

pub loop-x-init : goal.loop-x-init
loop-x-init c = wrote-first _ _ _

pub loop-x-preserved : goal.loop-x-preserved
loop-x-preserved c =
    let l = c.loop-x in
    wrote-point _ _ _ l.x-index (omega arith) l.invariant c.put_point.ensures

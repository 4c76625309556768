use Rattle.std.proofs.Common.{arith, ap, length}
use Rattle.container.proofs.ListLaws.{listed-length, unit-short}
use Rattle.annexb.proofs.JoinLaws.{putted-start, putted-unit, putted-next, putted-end}
use Rattle.annexb.proofs.annexb.write.put_units.Goals as goal

pub loop-i-init : goal.loop-i-init
loop-i-init c = putted-start _ _

pub put_unit-w-requires-clause-u_len_bound : goal.put_unit-w-requires-clause-u_len_bound
put_unit-w-requires-clause-u_len_bound c =
    omega (arith, ap length c.unit.ensures, unit-short c.args.units.bytes.now c.args.units.ends.now c.loop-i.i, c.requires.units_len_bound)

pub put_unit-w-requires-clause-obus_room : goal.put_unit-w-requires-clause-obus_room
put_unit-w-requires-clause-obus_room c =
    let x = c.args.units in
    rw c.unit.ensures (putted-unit c.requires.annexb_room c.loop-i.invariant (omega (arith, listed-length 0 x.bytes.now x.ends.now)))

pub loop-i-preserved : goal.loop-i-preserved
loop-i-preserved c =
    let x = c.args.units in
    putted-next c.requires.annexb_room c.loop-i.invariant (omega (arith, listed-length 0 x.bytes.now x.ends.now)) (rw c.unit.ensures at c.put_unit-w.ensures)

pub returns : goal.returns
returns c = putted-end c.requires.annexb_room c.loop-i.invariant (omega (arith, listed-length 0 c.args.units.bytes.now c.args.units.ends.now))

use Rattle.std.proofs.Common.{arith, sym}
use Rattle.container.proofs.ListLaws.{list-slice, listed-out}
use Rattle.container.proofs.lists.Units.unit.Goals as goal

pub returns-then-i-count : goal.returns-then-i-count
returns-then-i-count c =
    let x = c.args.self in
    sym (listed-out x.bytes.now x.ends.now c.args.i (omega (arith, c.count.ensures, c.if-i-count.true)))

pub returns : goal.returns
returns c =
    let x = c.args.self in
    let r = c.range.ensures in
    rw (r.start, r.end) (list-slice x.bytes.now x.ends.now c.args.i x.is_list (omega (arith, c.count.ensures, c.if-i-count.false)))

use Rattle.std.proofs.Common.{arith}
use Rattle.container.proofs.ListLaws.{list-within}
use Rattle.container.proofs.lists.Units.range.Goals as goal

pub returns-clause-within : goal.returns-clause-within
returns-clause-within c =
    let x = c.args.self in
    let w = list-within x.bytes.now x.ends.now c.args.i x.is_list c.requires in
    (omega (arith, c.start_of.ensures, c.end_of.ensures, w.0), omega (arith, c.end_of.ensures, w.1))

use Rattle.std.proofs.Common.{arith, ◌≡◌, ◌+◌, ◌-◌}
use Rattle.container.proofs.ExtentTurns.{unit-alone, unit-more, unit-led, unit-unled, frames-behind, obu-ends}
use Rattle.container.proofs.extents.next_unit.Goals as goal

pub returns-then-left-eq0 : goal.returns-then-left-eq0
returns-then-left-eq0 c = rw c.if-left-eq0.true (unit-alone c.requires.0 (rw c.if-left-eq0.true at c.requires.1))

pub to_frame-behind-requires : goal.to_frame-behind-requires
to_frame-behind-requires c =
    let a = c.args in
    let n : a.left ≡ a.left - 1 + 1 = omega arith in
    (a.left - 1, rw n at c.requires.1)

pub to_next-next-requires : goal.to_next-next-requires
to_next-next-requires c = frames-behind c.to_frame-behind.ensures.behind

pub returns-then-left-ge2 : goal.returns-then-left-ge2
returns-then-left-ge2 c = unit-more c.requires.1 c.to_frame-behind.ensures c.to_next-next.ensures (omega arith)

pub returns-then-lead : goal.returns-then-lead
returns-then-lead c = unit-led c.requires.1 c.to_frame-behind.ensures c.to_next-next.ensures (omega arith) (omega arith)

pub returns : goal.returns
returns c = unit-unled c.requires.1 c.to_frame-behind.ensures c.to_next-next.ensures (omega arith) (omega arith) (obu-ends (frames-behind c.to_next-next.ensures.behind).1 c.obu_end.ensures)

use Rattle.std.proofs.Common.{arith, ◌∙◌}
use Rattle.listing.proofs.NumberLaws.{sum_turn, sum_end}
use Rattle.listing.proofs.file.units_len.Goals as goal

pub loop-i-preserved : goal.loop-i-preserved
loop-i-preserved c =
    let key = c.from.ensures in
    let golden = c.from-in-loop-i.ensures in
    sum_turn c.loop-i.invariant _ _ c.loop-i-test.true (key ∙ c.read_u32.ensures) (omega (arith, key)) (golden ∙ c.read_u32-in-loop-i.ensures) (omega (arith, golden))

pub returns : goal.returns
returns c = sum_end c.loop-i.invariant c.loop-i-test.false

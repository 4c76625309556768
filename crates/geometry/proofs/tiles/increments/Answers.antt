use Rattle.std.proofs.Common.{◌≡◌, ◌-◌, arith, rules}
use Rattle.geometry.specs.Tiles.{increments}
use Rattle.geometry.proofs.IncrementLaws.{another, final}
use Rattle.geometry.proofs.tiles.increments.Goals as goal

pub loop-log2-init : goal.loop-log2-init
unfolding increments
loop-log2-init c =
    let none : c.args.least - c.args.least ≡ 0 = omega arith in
    record { low = omega arith; high = omega arith; same = rw none }

pub returns-in_err-more : goal.returns-in_err-more
returns-in_err-more c =
    let z = rw (← c.in_err-more.ensures) at (another c.loop-log2.invariant (omega arith)) in
    search (rules, z)

pub returns-then-not-more : goal.returns-then-not-more
returns-then-not-more c = rw (← c.in_ok-more.ensures, c.if-not-more.true) at (another c.loop-log2.invariant (omega arith))

pub loop-log2-preserved : goal.loop-log2-preserved
loop-log2-preserved c =
    record {
      low = omega arith;
      high = omega arith;
      same = rw (← c.in_ok-more.ensures, c.if-not-more.false) at (another c.loop-log2.invariant (omega arith));
    }

pub returns : goal.returns
returns c =
    let all : c.max.result ≡ c.loop-log2.log2 = omega (arith, c.loop-log2.invariant.low, c.loop-log2.invariant.high) in
    rw all (final c.loop-log2.invariant (omega arith))

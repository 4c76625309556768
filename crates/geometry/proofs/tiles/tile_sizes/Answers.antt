use Rattle.std.proofs.Common.{◌+◌, ◌-◌, arith, rules}
use borrow.Author.Tests.{lt-ltb, le-ltb}
use Rattle.syntax.specs.Syntax.{run}
use Rattle.syntax.proofs.RepeatLaws.{next_still, end_still}
use Rattle.geometry.specs.Tiles.{tile_size, tile_sizes}
use Rattle.geometry.proofs.tiles.tile_sizes.Goals as goal

pub returns-in_err-size_minus_1-clause-read : goal.returns-in_err-size_minus_1-clause-read
unfolding run tile_size tile_sizes
returns-in_err-size_minus_1-clause-read c =
    let l = c.loop-t in
    let z = next_still l.invariant.left (c.args.sbs - (l.t.count + 1)) (omega arith) (lt-ltb _ _ c.loop-t-test.true) in
    let z = rw (← c.min.ensures, ← c.in_err-size_minus_1.ensures.read) at z in
    search (rules, z)

pub loop-t-preserved : goal.loop-t-preserved
unfolding run tile_size
loop-t-preserved c =
    let l = c.loop-t in
    let z = next_still l.invariant.left (c.args.sbs - (l.t.count + 1)) (omega arith) (lt-ltb _ _ c.loop-t-test.true) in
    record {
      few = omega arith;
      fits = omega arith;
      left = record { same = rw (c.max.ensures) (rw (← c.min.ensures, ← c.in_ok-size_minus_1.ensures.read) at z) };
    }

pub returns-clause-read : goal.returns-clause-read
unfolding tile_sizes
returns-clause-read c = end_still _ c.loop-t.invariant.left (le-ltb _ _ c.loop-t-test.false)

use Rattle.std.proofs.Common.{◌≡◌, ◌+◌, ◌-◌, ℕ, suc, ap, arith}
use Rattle.geometry.specs.TileLimits.{doublings}
use Rattle.geometry.proofs.TileLaws.{doubled, reached, enough}
use Rattle.geometry.proofs.tile_limits.tile_log2.Goals as goal

pub loop-size-preserved : goal.loop-size-preserved
loop-size-preserved c =
    let t = c.args.target in
    let l = c.loop-size in
    let n : t - l.k ≡ suc (t - (l.k + 1)) = omega arith in
    record {
      few = omega arith;
      left = omega (arith, doubled (t - (l.k + 1)) l.size t c.loop-size-test.true, ap (λ (n : ℕ). doublings n l.size t) n);
    }

pub overflow_add-k : goal.overflow_add-k
overflow_add-k c =
    let a = c.args in
    omega (arith, c.loop-size.invariant.left, enough 52 a.target a.blk a.target (omega arith))

pub returns-clause-gives : goal.returns-clause-gives
returns-clause-gives c =
    let l = c.loop-size in
    omega (arith, reached (c.args.target - l.k) l.size c.args.target c.loop-size-test.false)

pub returns-clause-few : goal.returns-clause-few
returns-clause-few c =
    let a = c.args in
    let l = c.loop-size in
    omega (arith, reached (a.target - l.k) l.size a.target c.loop-size-test.false, enough 52 a.target a.blk a.target (omega arith))

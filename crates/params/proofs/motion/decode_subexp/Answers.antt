use Rattle.std.proofs.Common.{◌<◌, ◌+◌, ◌*◌, ◌^◌, sym, arith, rules}
use Rattle.bitio.proofs.BitLaws.{shl_one, read-lt}
use lib.Pow.{pow_mono}
use Rattle.params.proofs.SubexpLaws.{final, another, fewer}
use Rattle.params.proofs.motion.decode_subexp.Goals as goal

pub returns-in_err-v : goal.returns-in_err-v
returns-in_err-v c =
    let z = final c.loop-mk.invariant c.subexp_bits-b2.ensures.width (omega (arith, shl_one c.subexp_bits-b2.result (omega arith), c.if-n-mk.true)) in
    let z = rw (← c.in_err-v.ensures.read) at z in
    search (rules, z)

pub returns-then-n-mk : goal.returns-then-n-mk
returns-then-n-mk c =
    let z = final c.loop-mk.invariant c.subexp_bits-b2.ensures.width (omega (arith, shl_one c.subexp_bits-b2.result (omega arith), c.if-n-mk.true)) in
    rw (← c.in_ok-v.ensures.read) at z

pub returns-in_err-more : goal.returns-in_err-more
returns-in_err-more c =
    let z = another c.loop-mk.invariant c.subexp_bits-b2.ensures.width (omega (arith, shl_one c.subexp_bits-b2.result (omega arith), c.if-n-mk.false)) in
    let z = rw (← c.in_err-more.ensures) at z in
    search (rules, z)

pub overflow_add-result-then-not-more : goal.overflow_add-result-then-not-more
overflow_add-result-then-not-more c =
    omega (arith, read-lt _ _ _ (sym c.in_ok-v-2.ensures), pow_mono {i = c.subexp_bits-b2.result} {j = 14} (omega arith))

pub returns-in_err-v-2 : goal.returns-in_err-v-2
returns-in_err-v-2 c =
    let z = another c.loop-mk.invariant c.subexp_bits-b2.ensures.width (omega (arith, shl_one c.subexp_bits-b2.result (omega arith), c.if-n-mk.false)) in
    let z = rw (← c.in_ok-more.ensures, c.if-not-more.true, ← c.in_err-v-2.ensures) at z in
    search (rules, z)

pub returns-then-not-more : goal.returns-then-not-more
returns-then-not-more c =
    let z = another c.loop-mk.invariant c.subexp_bits-b2.ensures.width (omega (arith, shl_one c.subexp_bits-b2.result (omega arith), c.if-n-mk.false)) in
    rw (← c.in_ok-more.ensures, c.if-not-more.true, ← c.in_ok-v-2.ensures) at z

pub loop-mk-preserved : goal.loop-mk-preserved
loop-mk-preserved c =
    let b = c.subexp_bits-b2.result in
    let l : c.loop-mk.mk + 3 * 2 ^ b < c.args.n = omega (arith, shl_one b (omega arith), c.if-n-mk.false) in
    let z = another c.loop-mk.invariant c.subexp_bits-b2.ensures.width l in
    rw (shl_one b (omega arith))
    record {
      few = fewer c.loop-mk.invariant c.subexp_bits-b2.ensures.width c.requires.1 l;
      less = omega arith;
      same = rw (← c.in_ok-more.ensures, c.if-not-more.false) at z;
    }

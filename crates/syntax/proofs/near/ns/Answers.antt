use Rattle.std.proofs.Common.{arith, rules, sym}
use Rattle.syntax.specs.Syntax.{run}
use Rattle.syntax.specs.Near.{ns}
use Rattle.bitio.proofs.BitLaws.{read-lt}
use Rattle.syntax.proofs.NearLaws.{place, few, doubled}
use Rattle.syntax.proofs.near.ns.Goals as goal

pub overflow_shl-m : goal.overflow_shl-m
overflow_shl-m c = let p = c.requires in omega (arith, few _ p.0 p.1 c.log2-z.ensures)

pub overflow_sub-m : goal.overflow_sub-m
overflow_sub-m c =
    let p = c.requires in
    let e = c.log2-z.ensures in
    omega (arith, (place _ p.0 p.1 e).below, doubled _ p.0 p.1 e)

pub returns-then-v-m-clause-fits : goal.returns-then-v-m-clause-fits
returns-then-v-m-clause-fits c =
    let p = c.requires in
    omega (arith, (place _ p.0 p.1 c.log2-z.ensures).above, read-lt _ _ _ (sym c.in_ok-v.ensures))

pub returns-in_err-extra-clause-read : goal.returns-in_err-extra-clause-read
unfolding run ns
returns-in_err-extra-clause-read c =
    let p = c.requires in
    let d = doubled _ p.0 p.1 c.log2-z.ensures in
    search (rules, d)

pub overflow_mul-result : goal.overflow_mul-result
overflow_mul-result c =
    let p = c.requires in
    omega (arith, (place _ p.0 p.1 c.log2-z.ensures).above, read-lt _ _ _ (sym c.in_ok-v.ensures))

pub overflow_add-result : goal.overflow_add-result
overflow_add-result c =
    let p = c.requires in
    omega (arith, (place _ p.0 p.1 c.log2-z.ensures).above, read-lt _ _ _ (sym c.in_ok-v.ensures), read-lt _ _ _ (sym c.in_ok-extra.ensures))

pub returns-clause-read : goal.returns-clause-read
unfolding run ns
returns-clause-read c =
    let p = c.requires in
    let d = doubled _ p.0 p.1 c.log2-z.ensures in
    search (rules, d)

pub returns-clause-fits : goal.returns-clause-fits
returns-clause-fits c =
    let p = c.requires in
    omega (arith, (place _ p.0 p.1 c.log2-z.ensures).above, read-lt _ _ _ (sym c.in_ok-v.ensures), read-lt _ _ _ (sym c.in_ok-extra.ensures))

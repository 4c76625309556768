use Rattle.std.proofs.Common.{arith, rules, sym, ap, ◌∙◌, ◌*◌, ◌≤◌, length}
use Rattle.container.proofs.ListLaws.{listed-length, unit-short}
use Rattle.annexb.specs.code.Join.{framed_length}
use Rattle.annexb.proofs.JoinLaws.{listed-bytes, totalling-start, totalling-next, totalling-stop, totalling-few, totalling-end, unit-few}
use Rattle.annexb.proofs.annexb.count.count_units.Goals as goal

pub loop-i-init : goal.loop-i-init
loop-i-init c = totalling-start _

pub count_inner-requires : goal.count_inner-requires
count_inner-requires c = omega (arith, ap length c.unit.ensures, unit-short c.args.units.bytes.now c.args.units.ends.now c.loop-i.i, c.requires)

pub returns-in_err-n : goal.returns-in_err-n
returns-in_err-n c =
    let x = c.args.units in
    let e = totalling-stop _ c.loop-i.invariant (omega (arith, listed-length 0 x.bytes.now x.ends.now)) (rw c.unit.ensures at (sym c.in_err-n.ensures.result_value)) in
    search (rules, e)

pub framed_len-requires : goal.framed_len-requires
framed_len-requires c =
    omega (arith, c.in_ok-n.ensures.at_most, ap length c.unit.ensures, unit-short c.args.units.bytes.now c.args.units.ends.now c.loop-i.i, c.requires)

pub framed_len-total-requires : goal.framed_len-total-requires
framed_len-total-requires c =
    let n : c.in_ok-n.n ≤ 1000000000 * 48 = omega (arith, c.in_ok-n.ensures.at_most, ap length c.unit.ensures, unit-short c.args.units.bytes.now c.args.units.ends.now c.loop-i.i, c.requires) in
    omega (arith, c.framed_len.ensures, (unit-few c.in_ok-n.n n).0)

pub overflow_add-total : goal.overflow_add-total
overflow_add-total c =
    let x = c.args.units in
    let u = unit-short x.bytes.now x.ends.now c.loop-i.i in
    let t = totalling-next _ c.loop-i.invariant (omega (arith, listed-length 0 x.bytes.now x.ends.now)) (rw c.unit.ensures at (sym c.in_ok-n.ensures.result_value)) (rw c.unit.ensures at c.in_ok-n.ensures.at_most) (omega (arith, u, c.requires)) (c.framed_len-total.ensures ∙ ap framed_length c.framed_len.ensures) in
    omega (arith, totalling-few _ t, listed-bytes x, c.requires, c.well_formed)

pub loop-i-preserved : goal.loop-i-preserved
loop-i-preserved c =
    let x = c.args.units in
    let u = unit-short x.bytes.now x.ends.now c.loop-i.i in
    totalling-next _ c.loop-i.invariant (omega (arith, listed-length 0 x.bytes.now x.ends.now)) (rw c.unit.ensures at (sym c.in_ok-n.ensures.result_value)) (rw c.unit.ensures at c.in_ok-n.ensures.at_most) (omega (arith, u, c.requires)) (c.framed_len-total.ensures ∙ ap framed_length c.framed_len.ensures)

pub returns : goal.returns
returns c = totalling-end _ c.loop-i.invariant (omega (arith, listed-length 0 c.args.units.bytes.now c.args.units.ends.now))

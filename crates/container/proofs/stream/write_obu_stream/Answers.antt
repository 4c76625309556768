use Rattle.std.proofs.Common.{arith, rules, zero-add, ap, length}
use Rattle.bitio.proofs.LimitLaws.{limit_kept, limit_passed}
use Rattle.container.proofs.ListLaws.{list-is, write-long, write-none, write-full, write_done}
use Rattle.container.proofs.stream.write_obu_stream.Goals as goal

pub returns-in_err-check_limit-clause-result_value : goal.returns-in_err-check_limit-clause-result_value
returns-in_err-check_limit-clause-result_value c =
    let e = (write-long c.args.units.now c.args.unit_ends.now c.args.out.now (limit_passed _ c.in_err-check_limit.ensures)).0 in
    search (rules, e)

pub returns-in_err-check_limit-clause-out_after : goal.returns-in_err-check_limit-clause-out_after
returns-in_err-check_limit-clause-out_after c =
    let e = (write-long c.args.units.now c.args.unit_ends.now c.args.out.now (limit_passed _ c.in_err-check_limit.ensures)).1 in
    search (rules, e)

pub returns-in_err-listed-clause-result_value : goal.returns-in_err-listed-clause-result_value
returns-in_err-listed-clause-result_value c =
    let e = (write-none c.args.units.now c.args.unit_ends.now c.args.out.now (limit_kept _ c.in_ok-check_limit.ensures) c.in_err-listed.ensures).0 in
    search (rules, e)

pub returns-in_err-listed-clause-out_after : goal.returns-in_err-listed-clause-out_after
returns-in_err-listed-clause-out_after c =
    let e = (write-none c.args.units.now c.args.unit_ends.now c.args.out.now (limit_kept _ c.in_ok-check_limit.ensures) c.in_err-listed.ensures).1 in
    search (rules, e)

pub returns-then-listed-out : goal.returns-then-listed-out
returns-then-listed-out c =
    let x = c.in_ok-listed.ensures in
    let e = write-full _ _ _ (limit_kept _ c.in_ok-check_limit.ensures) (list-is c.in_ok-listed.listed x) (omega (arith, ap length x.0)) in
    record { result_value = e.0; out_after = e.1 }

pub returns : goal.returns
returns c =
    let x = c.in_ok-listed.ensures in
    let p = rw x.0 at c.put_bytes.ensures in
    let e = write_done _ _ _ (limit_kept _ c.in_ok-check_limit.ensures) (list-is c.in_ok-listed.listed x) (omega (arith, ap length x.0)) p.1 in
    record { result_value = rw (p.0, zero-add) e.0; out_after = e.1 }

use Rattle.std.proofs.Common.{rules, sym, length}
use Rattle.container.specs.Limits.{bytes_room}
use Rattle.bitio.proofs.LimitLaws.{limit_kept, limit_passed}
use Rattle.container.proofs.ListLaws.{list-is}
use Rattle.annexb.proofs.WriteLaws.{writes-refused, writes-whole, write-long, write-bad, write-refused, write-full, write-whole, writing}
use Rattle.annexb.proofs.annexb.write_annexb.Goals as goal

pub returns-in_err-check_limit-clause-result_value : goal.returns-in_err-check_limit-clause-result_value
returns-in_err-check_limit-clause-result_value c =
    let a = c.args in
    let e = (writes-refused a.out.now (write-long (bytes_room (length a.out.now)) a.units.now a.unit_ends.now (limit_passed _ c.in_err-check_limit.ensures))).0 in
    search (rules, e)

pub returns-in_err-check_limit-clause-out_after : goal.returns-in_err-check_limit-clause-out_after
returns-in_err-check_limit-clause-out_after c =
    let a = c.args in
    let e = (writes-refused a.out.now (write-long (bytes_room (length a.out.now)) a.units.now a.unit_ends.now (limit_passed _ c.in_err-check_limit.ensures))).1 in
    search (rules, e)

pub returns-in_err-listed-clause-result_value : goal.returns-in_err-listed-clause-result_value
returns-in_err-listed-clause-result_value c =
    let a = c.args in
    let e = (writes-refused a.out.now (write-bad (bytes_room (length a.out.now)) a.units.now a.unit_ends.now (limit_kept _ c.in_ok-check_limit.ensures) c.in_err-listed.ensures)).0 in
    search (rules, e)

pub returns-in_err-listed-clause-out_after : goal.returns-in_err-listed-clause-out_after
returns-in_err-listed-clause-out_after c =
    let a = c.args in
    let e = (writes-refused a.out.now (write-bad (bytes_room (length a.out.now)) a.units.now a.unit_ends.now (limit_kept _ c.in_ok-check_limit.ensures) c.in_err-listed.ensures)).1 in
    search (rules, e)

pub count_units-requires : goal.count_units-requires
count_units-requires c = rw c.in_ok-listed.ensures.0 (limit_kept _ c.in_ok-check_limit.ensures)

pub returns-in_err-bytes-clause-result_value : goal.returns-in_err-bytes-clause-result_value
returns-in_err-bytes-clause-result_value c =
    let a = c.args in
    let x = c.in_ok-listed.ensures in
    let e = (writes-refused a.out.now (write-refused (bytes_room (length a.out.now)) a.units.now a.unit_ends.now (limit_kept _ c.in_ok-check_limit.ensures) (list-is c.in_ok-listed.listed x) (rw (x.0, x.1) at (sym c.in_err-bytes.ensures)))).0 in
    search (rules, e)

pub returns-in_err-bytes-clause-out_after : goal.returns-in_err-bytes-clause-out_after
returns-in_err-bytes-clause-out_after c =
    let a = c.args in
    let x = c.in_ok-listed.ensures in
    let e = (writes-refused a.out.now (write-refused (bytes_room (length a.out.now)) a.units.now a.unit_ends.now (limit_kept _ c.in_ok-check_limit.ensures) (list-is c.in_ok-listed.listed x) (rw (x.0, x.1) at (sym c.in_err-bytes.ensures)))).1 in
    search (rules, e)

pub returns-then-not-have_room : goal.returns-then-not-have_room
returns-then-not-have_room c =
    let x = c.in_ok-listed.ensures in
    let e = writes-refused _ (write-full _ _ _ (limit_kept _ c.in_ok-check_limit.ensures) (list-is c.in_ok-listed.listed x) (rw (x.0, x.1) at (sym c.in_ok-bytes.ensures)) (sym c.if-not-have_room.ensures)) in
    record { result_value = e.0; out_after = e.1 }

pub put_units-requires-clause-units_len_bound : goal.put_units-requires-clause-units_len_bound
put_units-requires-clause-units_len_bound c = rw c.in_ok-listed.ensures.0 (limit_kept _ c.in_ok-check_limit.ensures)

pub put_units-requires-clause-annexb_room : goal.put_units-requires-clause-annexb_room
put_units-requires-clause-annexb_room c = writing _ _ (sym c.in_ok-bytes.ensures) (sym c.if-not-have_room.ensures)

pub returns : goal.returns
returns c =
    let x = c.in_ok-listed.ensures in
    let n = rw (x.0, x.1) at c.in_ok-bytes.ensures in
    let e = writes-whole _ (write-whole _ _ _ (limit_kept _ c.in_ok-check_limit.ensures) (list-is c.in_ok-listed.listed x) (sym n) (sym c.if-not-have_room.ensures)) n (rw (x.0, x.1) at c.put_units.ensures) in
    record { result_value = e.0; out_after = e.1 }

use Rattle.std.proofs.Common.{arith, rules, sym, ◌≡◌, ◌<◌, length}
use Rattle.std.proofs.lemmas.Grind.{common_steps}
use Rattle.container.specs.Limits.{room_in}
use Rattle.bitio.proofs.LimitLaws.{limit_kept, limit_passed}
use Rattle.annexb.proofs.SplitLaws.{says-refused, read-long, read-empty, counted, read-refused, read-full, read_whole, measured, says-whole}
use Rattle.annexb.proofs.annexb.split_annexb.Goals as goal

pub returns-in_err-check_limit-clause-result_value : goal.returns-in_err-check_limit-clause-result_value
returns-in_err-check_limit-clause-result_value c =
    let a = c.args in
    let e = (says-refused a.out.now a.ends.now (read-long (room_in a.out.now a.ends.now) a.«data».now (limit_passed _ c.in_err-check_limit.ensures))).0 in
    search (rules, e)

pub returns-in_err-check_limit-clause-out_after : goal.returns-in_err-check_limit-clause-out_after
returns-in_err-check_limit-clause-out_after c =
    let a = c.args in
    let e = (says-refused a.out.now a.ends.now (read-long (room_in a.out.now a.ends.now) a.«data».now (limit_passed _ c.in_err-check_limit.ensures))).1.0 in
    search (rules, e)

pub returns-in_err-check_limit-clause-ends_after : goal.returns-in_err-check_limit-clause-ends_after
returns-in_err-check_limit-clause-ends_after c =
    let a = c.args in
    let e = (says-refused a.out.now a.ends.now (read-long (room_in a.out.now a.ends.now) a.«data».now (limit_passed _ c.in_err-check_limit.ensures))).1.1 in
    search (rules, e)

pub returns-then-is_empty : goal.returns-then-is_empty
returns-then-is_empty c =
    let n : length c.args.«data».now ≡ 0 = grind (arith, common_steps) in
    let e = says-refused _ _ (read-empty _ _ n) in
    record { result_value = e.0; out_after = e.1.0; ends_after = e.1.1 }

pub returns-in_err-sizes-clause-result_value : goal.returns-in_err-sizes-clause-result_value
returns-in_err-sizes-clause-result_value c =
    let a = c.args in
    let n : 0 < length c.args.«data».now = grind (arith, common_steps) in
    let e = (says-refused a.out.now a.ends.now (read-refused (room_in a.out.now a.ends.now) a.«data».now (limit_kept _ c.in_ok-check_limit.ensures) n (sym c.in_err-sizes.ensures))).0 in
    search (rules, e)

pub returns-in_err-sizes-clause-out_after : goal.returns-in_err-sizes-clause-out_after
returns-in_err-sizes-clause-out_after c =
    let a = c.args in
    let n : 0 < length c.args.«data».now = grind (arith, common_steps) in
    let e = (says-refused a.out.now a.ends.now (read-refused (room_in a.out.now a.ends.now) a.«data».now (limit_kept _ c.in_ok-check_limit.ensures) n (sym c.in_err-sizes.ensures))).1.0 in
    search (rules, e)

pub returns-in_err-sizes-clause-ends_after : goal.returns-in_err-sizes-clause-ends_after
returns-in_err-sizes-clause-ends_after c =
    let a = c.args in
    let n : 0 < length c.args.«data».now = grind (arith, common_steps) in
    let e = (says-refused a.out.now a.ends.now (read-refused (room_in a.out.now a.ends.now) a.«data».now (limit_kept _ c.in_ok-check_limit.ensures) n (sym c.in_err-sizes.ensures))).1.1 in
    search (rules, e)

pub returns-then-not-have_room : goal.returns-then-not-have_room
returns-then-not-have_room c =
    let n : 0 < length c.args.«data».now = grind (arith, common_steps) in
    let e = says-refused _ _ (read-full _ _ (limit_kept _ c.in_ok-check_limit.ensures) n (counted _ (sym c.in_ok-sizes.ensures)) (sym c.if-not-have_room.ensures)) in
    record { result_value = e.0; out_after = e.1.0; ends_after = e.1.1 }

pub measure-requires : goal.measure-requires
measure-requires c = limit_kept _ c.in_ok-check_limit.ensures

pub fill-requires : goal.fill-requires
fill-requires c = measured (counted _ (sym c.in_ok-sizes.ensures)) (sym c.if-not-have_room.ensures)

pub returns : goal.returns
returns c =
    let n : 0 < length c.args.«data».now = grind (arith, common_steps) in
    let e = says-whole _ (read_whole _ _ (limit_kept _ c.in_ok-check_limit.ensures) n (counted _ (sym c.in_ok-sizes.ensures)) (sym c.if-not-have_room.ensures)) c.in_ok-sizes.ensures c.fill.ensures in
    record { result_value = e.0; out_after = e.1.0; ends_after = e.1.1 }

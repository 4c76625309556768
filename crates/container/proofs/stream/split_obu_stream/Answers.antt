use Rattle.std.proofs.Common.{rules, sym}
use Rattle.bitio.proofs.LimitLaws.{limit_kept, limit_passed}
use Rattle.container.proofs.StreamTurns.{surveyed, read-long, read-bad, read-full, read-room, read_done}
use Rattle.container.proofs.stream.split_obu_stream.Goals as goal

pub returns-in_err-check_limit-clause-result_value : goal.returns-in_err-check_limit-clause-result_value
returns-in_err-check_limit-clause-result_value c =
    let e = (read-long c.args.«data».now c.args.out.now c.args.ends.now (limit_passed _ c.in_err-check_limit.ensures)).0 in
    search (rules, e)

pub returns-in_err-check_limit-clause-out_after : goal.returns-in_err-check_limit-clause-out_after
returns-in_err-check_limit-clause-out_after c =
    let e = (read-long c.args.«data».now c.args.out.now c.args.ends.now (limit_passed _ c.in_err-check_limit.ensures)).1.0 in
    search (rules, e)

pub returns-in_err-check_limit-clause-ends_after : goal.returns-in_err-check_limit-clause-ends_after
returns-in_err-check_limit-clause-ends_after c =
    let e = (read-long c.args.«data».now c.args.out.now c.args.ends.now (limit_passed _ c.in_err-check_limit.ensures)).1.1 in
    search (rules, e)

pub survey-requires : goal.survey-requires
survey-requires c = limit_kept _ c.in_ok-check_limit.ensures

pub returns-in_err-tally-clause-result_value : goal.returns-in_err-tally-clause-result_value
returns-in_err-tally-clause-result_value c =
    let e = (read-bad c.args.«data».now c.args.out.now c.args.ends.now (limit_kept _ c.in_ok-check_limit.ensures) _ (sym c.in_err-tally.ensures)).0 in
    search (rules, e)

pub returns-in_err-tally-clause-out_after : goal.returns-in_err-tally-clause-out_after
returns-in_err-tally-clause-out_after c =
    let e = (read-bad c.args.«data».now c.args.out.now c.args.ends.now (limit_kept _ c.in_ok-check_limit.ensures) _ (sym c.in_err-tally.ensures)).1.0 in
    search (rules, e)

pub returns-in_err-tally-clause-ends_after : goal.returns-in_err-tally-clause-ends_after
returns-in_err-tally-clause-ends_after c =
    let e = (read-bad c.args.«data».now c.args.out.now c.args.ends.now (limit_kept _ c.in_ok-check_limit.ensures) _ (sym c.in_err-tally.ensures)).1.1 in
    search (rules, e)

pub is_roomy-requires : goal.is_roomy-requires
is_roomy-requires c = surveyed _ _ _ (limit_kept _ c.in_ok-check_limit.ensures) c.in_ok-tally.ensures

pub returns-then-not-is_roomy : goal.returns-then-not-is_roomy
returns-then-not-is_roomy c =
    let e = read-full _ _ _ (limit_kept _ c.in_ok-check_limit.ensures) (surveyed _ _ _ (limit_kept _ c.in_ok-check_limit.ensures) c.in_ok-tally.ensures).stream (sym c.if-not-is_roomy.ensures) in
    record { result_value = e.0; out_after = e.1.0; ends_after = e.1.1 }

pub write-requires : goal.write-requires
write-requires c = read-room _ _ _ (limit_kept _ c.in_ok-check_limit.ensures) (surveyed _ _ _ (limit_kept _ c.in_ok-check_limit.ensures) c.in_ok-tally.ensures).stream (sym c.if-not-is_roomy.ensures)

pub returns : goal.returns
returns c =
    let d = c.write.ensures in
    let e = read_done _ _ _ (limit_kept _ c.in_ok-check_limit.ensures) (surveyed _ _ _ (limit_kept _ c.in_ok-check_limit.ensures) c.in_ok-tally.ensures).stream (sym c.if-not-is_roomy.ensures) d.s_value d.out_after d.ends_after in
    record { result_value = e.0; out_after = e.1.0; ends_after = e.1.1 }

use Rattle.std.proofs.Common.{rules}
use Rattle.bitio.proofs.LimitLaws.{limit_passed}
use Rattle.packets.proofs.CanonicalLaws.{canon-long}
use Rattle.packets.proofs.packets.canonicalize_tu.Goals as goal

pub returns-in_err-check_limit-clause-answer : goal.returns-in_err-check_limit-clause-answer
returns-in_err-check_limit-clause-answer c =
    let e = (canon-long c.args.unit.now c.args.out.now (limit_passed _ c.in_err-check_limit.ensures)).0 in
    search (rules, e)

pub returns-in_err-check_limit-clause-out : goal.returns-in_err-check_limit-clause-out
returns-in_err-check_limit-clause-out c =
    let e = (canon-long c.args.unit.now c.args.out.now (limit_passed _ c.in_err-check_limit.ensures)).1 in
    search (rules, e)

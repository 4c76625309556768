use Rattle.std.proofs.Common.{rules}
use Rattle.player.proofs.StepLaws.{long, at-headers, at-none, at-frame, at-slots, at-shown}
use Rattle.player.proofs.play.State.play.Goals as goal

pub returns-in_err-check_limit : goal.returns-in_err-check_limit
returns-in_err-check_limit c =
    let r = long c.args.self.now c.args.position c.args.unit.now _ c.in_err-check_limit.ensures in
    let a = r.0 in
    record { answer = search (rules, a); state = r.1 }

pub returns-in_err-kept : goal.returns-in_err-kept
returns-in_err-kept c =
    let r = at-headers c.args.self.now c.args.position c.args.unit.now c.in_ok-check_limit.ensures _ c.in_err-kept.ensures in
    let a = r.0 in
    record { answer = search (rules, a); state = r.1 }

pub returns-in_err-sequence : goal.returns-in_err-sequence
returns-in_err-sequence c =
    let none = c.in_err-sequence.ensures.ok_part in
    let e = rw none at c.in_err-sequence.ensures.value in
    let r = at-none c.args.self.now c.args.position c.args.unit.now c.in_ok-check_limit.ensures (rw none at c.in_ok-kept.ensures) in
    let a = r.0 in
    record { answer = search (rules, a, e); state = r.1 }

pub returns-in_err-info : goal.returns-in_err-info
returns-in_err-info c =
    let r = at-frame c.args.self.now c.args.position c.args.unit.now c.in_ok-check_limit.ensures _ (rw c.in_ok-sequence.ensures.ok_part at c.in_ok-kept.ensures) _ c.in_err-info.ensures in
    let a = r.0 in
    record { answer = search (rules, a); state = r.1 }

pub returns-in_err-slots : goal.returns-in_err-slots
returns-in_err-slots c =
    let r = at-slots c.args.self.now c.args.position c.args.unit.now c.in_ok-check_limit.ensures _ (rw c.in_ok-sequence.ensures.ok_part at c.in_ok-kept.ensures) _ c.in_ok-info.ensures _ c.in_err-slots.ensures in
    let a = r.0 in
    record { answer = search (rules, a); state = r.1 }

pub returns : goal.returns
returns c =
    let r = at-shown c.args.self.now c.args.position c.args.unit.now c.in_ok-check_limit.ensures _ (rw c.in_ok-sequence.ensures.ok_part at c.in_ok-kept.ensures) _ c.in_ok-info.ensures _ _ c.in_ok-slots.ensures in
    record { answer = r.0; state = rw c.in_ok-sequence.ensures.ok_part r.1 }

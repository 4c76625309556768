use Rattle.std.proofs.Common.{arith, refl, rules}
use Rattle.bitio.proofs.LimitLaws.{limit_kept}
use Rattle.container.proofs.ListLaws.{list-is}
use Rattle.playback.proofs.ShownLaws.{play-long, play-none, play-outside, play-full, play-room, play-done}
use Rattle.playback.proofs.play.play_from.Goals as goal

pub returns-in_err-check_limit : goal.returns-in_err-check_limit
returns-in_err-check_limit c =
    let a = c.args in
    let e = play-long a.units.now a.unit_ends.now a.cue a.shown.now c.in_err-check_limit.ensures in
    search (rules, e)

pub returns-in_err-listed : goal.returns-in_err-listed
returns-in_err-listed c =
    let e = play-none c.args.units.now c.args.unit_ends.now c.args.cue c.args.shown.now (limit_kept _ c.in_ok-check_limit.ensures) c.in_err-listed.field-0.0 c.in_err-listed.ensures in
    search (rules, e)

pub returns-then-cue-lt1 : goal.returns-then-cue-lt1
returns-then-cue-lt1 c = play-outside _ _ _ _ (limit_kept _ c.in_ok-check_limit.ensures) (list-is c.in_ok-listed.listed c.in_ok-listed.ensures) (λ f t. omega arith)

pub returns-then-n-shown : goal.returns-then-n-shown
returns-then-n-shown c = play-full _ _ _ _ (limit_kept _ c.in_ok-check_limit.ensures) (list-is c.in_ok-listed.listed c.in_ok-listed.ensures) (omega arith) (omega arith) refl c.if-n-shown.true

pub play_units-requires : goal.play_units-requires
play_units-requires c =
    let x = c.in_ok-listed.ensures in
    rw (x.0, x.1) (play-room _ _ _ _ (limit_kept _ c.in_ok-check_limit.ensures) (list-is c.in_ok-listed.listed x) (omega arith) (omega arith) refl c.if-n-shown.false)

pub returns : goal.returns
returns c =
    let x = c.in_ok-listed.ensures in
    play-done _ _ _ _ (limit_kept _ c.in_ok-check_limit.ensures) (list-is c.in_ok-listed.listed x) (omega arith) (omega arith) refl c.if-n-shown.false (rw (x.0, x.1) at c.play_units.ensures)

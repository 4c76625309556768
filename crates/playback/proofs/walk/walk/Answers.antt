use Rattle.std.proofs.Common.{ℕ, Result, rules, Err, None}
use Rattle.pictures.specs.declared.fault.Fault.{Fault}
use Rattle.playback.specs.Way.{form_says, play_lent_of}
use Rattle.playback.proofs.WalkLaws.{walk-stop, walk-go, overall-ok, overall-err}
use Rattle.playback.proofs.walk.walk.Goals as goal

pub returns-in_err-made-clause-walked : goal.returns-in_err-made-clause-walked
returns-in_err-made-clause-walked c =
    let a = c.args in
    let e = walk-stop _ _ _ _ _ (form_says a.form) a.cue _ c.in_err-made.ensures.handed (play_lent_of a.way.now) in
    search (rules, e)

pub returns-in_err-play_list-clause-walked : goal.returns-in_err-play_list-clause-walked
returns-in_err-play_list-clause-walked c =
    let r : Result ℕ Fault = Err (record { refusal = c.in_err-play_list.field-0.0; segment = None }) in
    let u = c.of.ensures in
    let p = rw (u.list, u.pictures, u.ends, u.shows) at c.in_err-play_list.ensures.played in
    let e = walk-go _ _ _ _ _ _ c.in_ok-made.ensures.handed (form_says c.args.form) c.args.cue _ _ r _ (overall-err _) p in
    search (rules, e)

pub returns-clause-walked : goal.returns-clause-walked
returns-clause-walked c =
    let u = c.of.ensures in
    let p = rw (u.list, u.pictures, u.ends, u.shows) at c.in_ok-play_list.ensures.played in
    walk-go _ _ _ _ _ _ c.in_ok-made.ensures.handed _ _ _ _ _ _ (overall-ok _) p

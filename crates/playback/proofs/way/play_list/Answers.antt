use Rattle.std.proofs.Common.{rules}
use Rattle.playback.specs.Shown.{all_say}
use Rattle.playback.proofs.WayLaws.{show-stop, show-long, show-slots, show-go}
use Rattle.playback.proofs.way.play_list.Goals as goal

pub returns-in_err-carried-clause-played : goal.returns-in_err-carried-clause-played
returns-in_err-carried-clause-played c =
    let e = show-stop _ _ _ _ c.args.cue (all_say c.args.way.now.shown.now) _ c.in_err-carried.ensures.carried in
    search (rules, e)

pub play_back-requires : goal.play_back-requires
play_back-requires c =
    let g = all_say c.args.way.now.shown.now in
    let w = c.in_ok-carried.ensures.carried in
    record { bytes = show-long _ _ _ _ c.args.cue g _ w; units = show-slots _ _ _ _ c.args.cue g _ w }

pub returns-clause-played : goal.returns-clause-played
returns-clause-played c =
    let w = c.in_ok-carried.ensures in
    let b = c.play_back.ensures in
    let p = rw (w.shown) at b.played in
    rw (b.back, b.back_ends) (show-go _ _ _ _ _ _ _ w.carried _ _ p)

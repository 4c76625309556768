use Rattle.player.specs.Values.{state_says}
use Rattle.playback.specs.Shown.{all_say}
use Rattle.playback.proofs.ShownLaws.{Playing}
use Rattle.playback.proofs.play.play_units.Given as goal

abbrev pub invariant-loop-i : goal.invariant-loop-i
invariant-loop-i l = Playing l.units.bytes.now l.units.ends.now l.cue (all_say l.fn.shown) (state_says l.state) l.i (all_say l.shown)

use Rattle.std.proofs.Common.{arith, ap, ◌∙◌}
use Rattle.std.proofs.lemmas.List.{map-set}
use Rattle.player.specs.Values.{shown_says, state_says}
use Rattle.player.proofs.StepLaws.{start-says, leaves-so}
use Rattle.playback.proofs.ShownLaws.{playing-start, playing-next, playing-end}
use Rattle.playback.proofs.play.play_units.Goals as goal

pub loop-i-init : goal.loop-i-init
loop-i-init c = playing-start c.args.shown.now c.requires (ap state_says c.start-state.ensures ∙ start-says)

pub loop-i-preserved : goal.loop-i-preserved
loop-i-preserved c =
    rw (map-set shown_says c.loop-i.shown _ _)
    (playing-next c.loop-i.invariant (omega arith) _ _ c.play_at.ensures.shown (ap state_says c.play_at.ensures.state ∙ leaves-so c.loop-i.state _ _))

pub returns : goal.returns
returns c = playing-end c.loop-i.invariant (omega arith)

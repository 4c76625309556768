use Rattle.std.proofs.Common.{rules, ◌∙◌, arith, get_or}
use Rattle.player.specs.Values.{state_says}
use Rattle.player.proofs.StepLaws.{leaves-so}
use Rattle.protocol.specs.Answers.{numbers_told}
use Rattle.replay_lists.proofs.PlayLaws.{play_next, play_end}
use Rattle.replay_lists.proofs.play_ops.play.Goals as goal

pub loop-i-preserved : goal.loop-i-preserved
loop-i-preserved c =
    let l = c.loop-i in
    let a = c.args in
    let z = play_next a.s.now a.ends.now (numbers_told l.told) (state_says l.state) l.i a.positions.now (omega arith) in
    let z = rw (← c.part_in.ensures, ← leaves-so l.state (get_or a.positions.now l.i 0) c.part_in.result.now, ← c.play-shown.ensures.state, ← c.play-shown.ensures.answer, ← c.put_shown.ensures.told) at z in
    record { left = z ∙ l.invariant.left; lent = c.put_shown.ensures.lent ∙ l.invariant.lent }

pub returns : goal.returns
returns c =
    let l = c.loop-i in
    let e = play_end _ _ _ (state_says l.state) l.i _ (omega arith) ∙ l.invariant.left in
    search (rules, e)

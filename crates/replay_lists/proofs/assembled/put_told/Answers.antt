use Rattle.std.proofs.Common.{◌∙◌, arith}
use Rattle.protocol.specs.Answers.{numbers_told}
use Rattle.replay_lists.proofs.ToldListLaws.{kind_next, kind_end}
use Rattle.replay_lists.proofs.assembled.put_told.Goals as goal

pub loop-v-preserved : goal.loop-v-preserved
loop-v-preserved c =
    let l = c.loop-v in
    let z = kind_next (numbers_told l.numbers) l.item c.args.others c.args.list.now l.v-index c.loop-v-test.true in
    let z = rw (← c.from.ensures.0, ← c.from-in-loop-v.ensures, ← c.put_pair.ensures.told) at z in
    record { left = z ∙ l.invariant.left; lent = c.put_pair.ensures.lent ∙ l.invariant.lent }

pub returns : goal.returns
returns c =
    let l = c.loop-v in
    record { told = kind_end _ l.item _ _ l.v-index (omega arith) ∙ l.invariant.left; lent = l.invariant.lent }

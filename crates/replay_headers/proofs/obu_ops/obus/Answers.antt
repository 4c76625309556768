use Rattle.obu.specs.Obu.{obus}
use Rattle.replay_headers.proofs.ToldObuLaws.{counted-all, tell-obus}
use Rattle.replay_headers.proofs.obu_ops.obus.Goals as goal

pub returns-in-Ok-clause-told : goal.returns-in-Ok-clause-told
returns-in-Ok-clause-told c =
    let (os, x, n) = counted-all (obus c.args.s.now) _ c.in-Ok.ensures in
    tell-obus _ _ _ _ os _ x n c.done.ensures c.number-answer.ensures (c.put_obus.ensures.told os x)

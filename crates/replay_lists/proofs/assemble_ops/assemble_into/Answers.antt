use Rattle.std.proofs.Common.{ap, ◌∙◌}
use Rattle.assemble.specs.Whole.{Lent}
use Rattle.pictures.specs.Says.{outcome_of}
use Rattle.replay_lists.specs.Lists.{handed_told}
use Rattle.replay_lists.proofs.ToldListLaws.{told_handed}
use Rattle.replay_lists.proofs.assemble_ops.assemble_into.Goals as goal

pub returns-clause-told : goal.returns-clause-told
returns-clause-told c =
    let m = c.args.memory.now in
    c.put_handed.ensures.told
    ∙ ap (λ (d : Lent). handed_told (outcome_of c.assemble_multi-made.result) d m.bytes.now m.ends.now m.numbers.now) c.of.ensures
    ∙ told_handed m.bytes.now m.ends.now m.numbers.now c.assemble_multi-made.ensures.handed

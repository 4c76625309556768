use Rattle.std.proofs.Common.{◌*◌, ap, ◌∙◌, arith}
use Rattle.blocks.specs.Numbers.{width}
use Rattle.replay_lists.specs.Lists.{segments_asked, assemble_told}
use Rattle.replay_lists.proofs.SegmentFieldLaws.{records_whole, zeros_length}
use Rattle.replay_lists.proofs.assemble_ops.assemble.Goals as goal

pub returns-clause-told : goal.returns-clause-told
unfolding assemble_told
returns-clause-told c =
    let n = c.min.ensures in
    let size = zeros_length (width * 10923) (width * c.min.result) (omega (arith, n)) ∙ ap (λ k. width * k) n in
    let records = c.put_segments.ensures ∙ records_whole _ _ _ (segments_asked c.args.ends.now) size in
    rw (records, c.settings_of.ensures) at c.assemble_lent.ensures.told

use Rattle.std.proofs.Common.{◌∙◌, ap}
use Rattle.protocol.specs.Marked.{byte_mark, end_mark}
use Rattle.assemble.specs.Whole.{Lent, outcome}
use Rattle.replay_lists.specs.Lists.{outcome_told}
use Rattle.replay_lists.proofs.SegmentFieldLaws.{marks_taken, same_slices}
use Rattle.replay_lists.proofs.assemble_ops.assemble_lent.Goals as goal

pub returns-clause-told : goal.returns-clause-told
returns-clause-told c =
    let a = c.args in
    let room = a.lent in
    let m = a.memory.now in
    c.assemble_into.ensures.told
    ∙ ap (λ (d : Lent). outcome_told (outcome a.segments.picture.now a.segments.numbers.now a.settings d) d m.bytes.now m.ends.now m.numbers.now)
    (same_slices _ _ _ (marks_taken room.ends 32768 end_mark c.min.ensures) (marks_taken room.numbers 32768 end_mark c.min-2.ensures) (marks_taken room.bytes 65536 byte_mark c.min-3.ensures))

use Rattle.std.proofs.Common.{rules}
use Rattle.protocol.proofs.AnswerLaws.{tells_then}
use Rattle.replay_headers.specs.Fields.{sequence_fields}
use Rattle.replay_headers.proofs.sequence_fields.put_sequence.Goals as goal

pub returns : goal.returns
unfolding sequence_fields
returns c =
    let points = rw c.points.ensures.points at c.put_points.ensures in
    let all = tells_then _ _ _ (tells_then _ _ _ c.put_opening.ensures c.put_coding.ensures) points in
    let told = all.told in
    let lent = all.lent in
    search (rules, told, lent)

use Rattle.protocol.proofs.AnswerLaws.{tells_then}
use Rattle.replay_headers.proofs.sequence_fields.put_opening.Goals as goal

pub returns : goal.returns
returns c =
    let timing = rw c.timing_fields.ensures at c.put_list-2.ensures in
    let model = rw c.model_fields.ensures at c.put_list-3.ensures in
    tells_then _ _ _ (tells_then _ _ _ (tells_then _ _ _ c.put_list.ensures timing) model) c.put.ensures

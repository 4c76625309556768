use Rattle.protocol.proofs.AnswerLaws.{tells_then}
use Rattle.replay_scan.proofs.scan_fields.put_scan.Goals as goal

pub returns : goal.returns
returns c = tells_then _ _ _ (tells_then _ _ _ c.put_place.ensures c.put_size.ensures) c.put_deltas.ensures

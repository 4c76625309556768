use Rattle.std.proofs.Common.{refl}
use Rattle.protocol.proofs.ToldLaws.{tells}
use Rattle.replay_headers.specs.Fields.{sequence_fields}
use Rattle.replay_headers.proofs.HeaderReadLaws.{header_read}
use Rattle.replay_headers.proofs.header_ops.seq.Goals as goal

pub returns-in-Ok : goal.returns-in-Ok
returns-in-Ok c = tells sequence_fields _ _ _ _ c.put_sequence.ensures refl (header_read _ _ c.in-Ok.ensures)

use Rattle.replay_headers.proofs.HeaderReadLaws.{header_whole}
use Rattle.replay_headers.proofs.header_ops.emit.Goals as goal

pub returns : goal.returns
returns c = rw (header_whole _ _ c.parse_sequence_header.ensures) at c.tell_emitted.ensures

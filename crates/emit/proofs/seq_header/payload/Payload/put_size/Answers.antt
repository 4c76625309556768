use Rattle.emittable.specs.PutSequence.{put_size}
use Rattle.emit.proofs.WroteLaws.{wrote_then}
use Rattle.emit.proofs.seq_header.payload.Payload.put_size.Goals as goal

pub returns : goal.returns
unfolding put_size
returns c = wrote_then (wrote_then (wrote_then c.put.ensures c.put-2.ensures) c.put-3.ensures) c.put-4.ensures

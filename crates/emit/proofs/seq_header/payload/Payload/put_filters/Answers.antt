use Rattle.emittable.specs.PutSequence.{put_filters}
use Rattle.emit.proofs.WroteLaws.{wrote_then}
use Rattle.emit.proofs.seq_header.payload.Payload.put_filters.Goals as goal

pub returns : goal.returns
unfolding put_filters
returns c = wrote_then (wrote_then c.put_flag.ensures c.put_flag-2.ensures) c.put_flag-3.ensures

use Rattle.emittable.specs.PutSequence.{put_model}
use Rattle.emit.proofs.WroteLaws.{wrote_then}
use Rattle.emit.proofs.seq_header.payload.Payload.put_model.Goals as goal

pub returns : goal.returns
unfolding put_model
returns c = wrote_then (wrote_then (wrote_then (wrote_then c.put_flag_or.ensures c.put_or.ensures) c.put_or-2.ensures) c.put_or-3.ensures) c.put_or-4.ensures

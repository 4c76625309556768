use Rattle.emittable.specs.PutSequence.{put_opening}
use Rattle.emit.proofs.WroteLaws.{wrote_then}
use Rattle.emit.proofs.seq_header.payload.Payload.put_opening.Goals as goal

pub returns : goal.returns
unfolding put_opening
returns c = wrote_then (wrote_then (wrote_then (wrote_then (wrote_then (wrote_then c.put.ensures c.put_flag.ensures) c.put_flag-2.ensures) c.put_timing.ensures) c.put_model.ensures) c.put_flag_or.ensures) c.put_or.ensures

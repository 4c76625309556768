use Rattle.emittable.specs.PutSequence.{put_color}
use Rattle.emit.proofs.WroteLaws.{wrote_then}
use Rattle.emit.proofs.seq_header.payload.Payload.put_color.Goals as goal

pub returns : goal.returns
unfolding put_color
returns c = wrote_then (wrote_then (wrote_then (wrote_then (wrote_then (wrote_then c.put_flag.ensures c.put_flag_or.ensures) c.put_flag_or-2.ensures) c.put_flag-2.ensures) c.put_or.ensures) c.put_or-2.ensures) c.put_or-3.ensures

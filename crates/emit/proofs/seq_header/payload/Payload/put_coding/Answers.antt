use Rattle.emittable.specs.PutSequence.{put_coding}
use Rattle.emit.proofs.WroteLaws.{wrote_then}
use Rattle.emit.proofs.seq_header.payload.Payload.put_coding.Goals as goal

pub returns : goal.returns
unfolding put_coding
returns c = wrote_then (wrote_then (wrote_then (wrote_then (wrote_then (wrote_then (wrote_then c.put_size.ensures c.put_ids.ensures) c.put_tools.ensures) c.put_screen.ensures) c.put_filters.ensures) c.put_color.ensures) c.put_sampling.ensures) c.put_flag.ensures

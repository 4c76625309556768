use Rattle.emittable.specs.PutSequence.{put_tools}
use Rattle.emit.proofs.WroteLaws.{wrote_then}
use Rattle.emit.proofs.seq_header.payload.Payload.put_tools.Goals as goal

pub returns : goal.returns
unfolding put_tools
returns c = wrote_then (wrote_then (wrote_then (wrote_then (wrote_then (wrote_then (wrote_then (wrote_then (wrote_then c.put_flag.ensures c.put_flag-2.ensures) c.put_flag-3.ensures) c.put_flag_or.ensures) c.put_flag_or-2.ensures) c.put_flag_or-3.ensures) c.put_flag_or-4.ensures) c.put_flag_or-5.ensures) c.put_flag_or-6.ensures) c.put_flag_or-7.ensures

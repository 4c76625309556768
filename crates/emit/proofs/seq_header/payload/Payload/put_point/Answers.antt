use Rattle.emittable.specs.PutSequence.{put_point}
use Rattle.emit.proofs.WroteLaws.{wrote_then}
use Rattle.emit.proofs.seq_header.payload.Payload.put_point.Goals as goal

pub returns : goal.returns
unfolding put_point
returns c =
    let decoder = rw c.delay_bits-n.ensures at c.put_or-2.ensures in
    let encoder = rw c.delay_bits-n.ensures at c.put_or-3.ensures in
    wrote_then (wrote_then (wrote_then (wrote_then (wrote_then (wrote_then (wrote_then (wrote_then c.put_or.ensures c.put.ensures) c.put_flag_or.ensures) c.put_flag_or-2.ensures) decoder) encoder) c.put_flag_or-3.ensures) c.put_flag_or-4.ensures) c.put_or-4.ensures

use Rattle.emittable.specs.PutSequence.{put_sampling}
use Rattle.emit.proofs.WroteLaws.{wrote_then}
use Rattle.emit.proofs.seq_header.payload.Payload.put_sampling.Goals as goal

pub returns : goal.returns
unfolding put_sampling
returns c =
    let range = rw c.is_range_coded.ensures at c.put_flag_or.ensures in
    let x = rw c.is_sampling_coded-coded.ensures at c.put_flag_or-2.ensures in
    let y = rw c.is_sampling_coded-coded.ensures at c.put_flag_or-3.ensures in
    let position = rw c.is_sampled.ensures at c.put_or.ensures in
    wrote_then (wrote_then (wrote_then (wrote_then range x) y) position) c.put_flag.ensures

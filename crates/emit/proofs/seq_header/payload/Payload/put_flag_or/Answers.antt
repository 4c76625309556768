use Rattle.emittable.specs.PutFields.{put_flag_or}
use Rattle.emit.proofs.WroteLaws.{wrote_none, wrote_as}
use Rattle.emit.proofs.seq_header.payload.Payload.put_flag_or.Goals as goal

pub returns-then-on : goal.returns-then-on
unfolding put_flag_or
returns-then-on c = wrote_as (λ l. rw c.if-on.true) c.put_flag.ensures

pub returns-else-on : goal.returns-else-on
unfolding put_flag_or
returns-else-on c = wrote_as (λ l. rw c.if-on.false) (wrote_none _ _)

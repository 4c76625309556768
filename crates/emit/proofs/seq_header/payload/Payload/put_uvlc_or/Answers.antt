use Rattle.std.proofs.Common.{rules}
use Rattle.emittable.specs.PutFields.{put_uvlc_or}
use Rattle.emit.proofs.WroteLaws.{wrote_none, wrote_as, wrote-bits}
use Rattle.emit.proofs.seq_header.payload.Payload.put_uvlc_or.Goals as goal

pub returns-then-on : goal.returns-then-on
unfolding put_uvlc_or
returns-then-on c =
    let f = c.uvlc.ensures in
    wrote_as (λ l. rw c.if-on.true) (wrote-bits _ _ _ (search rules) _ _ _ f.result_value f.out_after c.unwrap_or-self.ensures)

pub returns-else-on : goal.returns-else-on
unfolding put_uvlc_or
returns-else-on c = wrote_as (λ l. rw c.if-on.false) (wrote_none _ _)

use Rattle.std.proofs.Common.{rules}
use Rattle.emit.proofs.WroteLaws.{wrote-bits}
use Rattle.emit.proofs.seq_header.payload.Payload.put.Goals as goal

pub returns : goal.returns
returns c =
    let f = c.f.ensures in
    wrote-bits _ _ _ (search rules) _ _ _ f.result_value f.out_after c.unwrap_or-self.ensures

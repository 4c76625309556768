use Rattle.std.proofs.Common.{arith}
use Rattle.container.proofs.StreamTurns.{lead-ranged, inner-ranged, unit-fits, unit-length}
use Rattle.container.proofs.stream.unit_len.Goals as goal

pub written_len-n-requires : goal.written_len-n-requires
written_len-n-requires c = lead-ranged c.requires

pub written_len-requires : goal.written_len-requires
written_len-requires c = inner-ranged c.requires

pub overflow_add-result : goal.overflow_add-result
overflow_add-result c = omega (arith, unit-fits c.requires c.written_len-n.ensures c.written_len.ensures)

pub returns : goal.returns
returns c = unit-length c.written_len-n.ensures c.written_len.ensures

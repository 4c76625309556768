use Rattle.container.proofs.StreamTurns.{lead-roomy, inner-roomy, unit-wrote}
use Rattle.container.proofs.stream.put_unit.Goals as goal

pub put_written-w-requires : goal.put_written-w-requires
put_written-w-requires c = lead-roomy c.requires

pub put_written-requires : goal.put_written-requires
put_written-requires c = inner-roomy c.requires c.put_written-w.ensures

pub returns : goal.returns
returns c = unit-wrote c.requires c.put_written-w.ensures c.put_written.ensures

use Rattle.std.proofs.Common.{rules}
use Rattle.annexb.proofs.PartLaws.{goes-on}
use Rattle.annexb.proofs.annexb.parts.PartsIterator.next.Goals as goal

pub returns-clause-steps : goal.returns-clause-steps
returns-clause-steps c = search rules

pub returns-clause-goes : goal.returns-clause-goes
returns-clause-goes c = goes-on _ _ _ (returns-clause-steps c)

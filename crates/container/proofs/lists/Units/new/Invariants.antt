use Rattle.container.proofs.ListLaws.{Checking}
use Rattle.container.proofs.lists.Units.new.Given as goal

abbrev pub invariant-loop-end : goal.invariant-loop-end
invariant-loop-end l = Checking l.bytes l.ends l.at l.end-index

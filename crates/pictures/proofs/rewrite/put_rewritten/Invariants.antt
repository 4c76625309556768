use Rattle.pictures.proofs.RewriteLaws.{PuttingRewritten}
use Rattle.pictures.proofs.rewrite.put_rewritten.Given as goal

abbrev pub invariant-loop-found : goal.invariant-loop-found
invariant-loop-found l = PuttingRewritten l.unit l.new l.fn.out l.fn.at l.found-iterator l.to l.out

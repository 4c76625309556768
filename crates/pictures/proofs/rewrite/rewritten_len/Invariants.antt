use Rattle.pictures.proofs.RewriteLaws.{Sizing}
use Rattle.pictures.proofs.rewrite.rewritten_len.Given as goal

abbrev pub invariant-loop-found : goal.invariant-loop-found
invariant-loop-found l = Sizing l.unit l.new l.found-iterator l.n

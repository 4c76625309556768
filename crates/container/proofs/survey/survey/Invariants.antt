use Rattle.obu.proofs.WalkLaws.{Over}
use Rattle.container.proofs.SurveyLaws.{Surveying}
use Rattle.container.proofs.survey.survey.Given as goal

abbrev pub invariant-loop-found : goal.invariant-loop-found
invariant-loop-found l = Over l.s l.found-iterator × Surveying l.s l.found-iterator.at l.frames l.bytes

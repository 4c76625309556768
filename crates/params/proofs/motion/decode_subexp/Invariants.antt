use Rattle.std.proofs.Common.{◌-◌}
use Rattle.params.proofs.SubexpLaws.{Turn}
use Rattle.params.proofs.motion.decode_subexp.Given as goal

abbrev pub invariant-loop-mk : goal.invariant-loop-mk
invariant-loop-mk l = Turn l.s l.n l.initial.reader.pos l.i l.mk l.reader.pos

abbrev pub decreases-loop-mk : goal.decreases-loop-mk
decreases-loop-mk l = 16 - l.i

use Rattle.std.proofs.Common.{ℕ}
use Rattle.bitio.specs.Bits.{Reading}
use Rattle.syntax.specs.Turns.{Reads}
use Rattle.syntax.proofs.TurnsLaws.{Over}
use Rattle.syntax.proofs.turns.times.Given as goal

abbrev pub invariant-loop : goal.invariant-loop
invariant-loop g l = (x : ℕ → Reading g.row.T.Denot) → Reads (goal.F-post g l.f) x → Over x l.n l.initial.reader.pos l.counter l.reader.pos

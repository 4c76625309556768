use Rattle.std.proofs.Common.{ℕ, cond, replicate}
use Rattle.bitio.specs.Bits.{Reading}
use Rattle.syntax.specs.Turns.{Reads}
use Rattle.syntax.proofs.TurnsLaws.{Filling}
use Rattle.syntax.proofs.turns.array_if.Given as goal

abbrev pub invariant-loop-i : goal.invariant-loop-i
invariant-loop-i g l =
    (x : ℕ → Reading g.row.T.Denot) → Reads (goal.F-post g l.f) x
    → Filling x (cond l.on g.row.N 0) (replicate g.row.N l.fn.other) l.initial.reader.pos l.i l.items l.reader.pos

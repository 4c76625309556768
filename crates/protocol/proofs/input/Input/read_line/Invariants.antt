-- What is kept of the line so far.
use Rattle.std.proofs.Common.{◌≡◌, length}
use Rattle.protocol.specs.Lines.{Kept}
use Rattle.protocol.proofs.input.Input.read_line.Given as goal

abbrev pub invariant-loop : goal.invariant-loop
invariant-loop g l = record { kept : Kept l.fn.line l.line l.len; piece : length l.piece ≡ length l.fn.piece }

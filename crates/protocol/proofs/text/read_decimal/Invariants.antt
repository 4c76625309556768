-- The digits that are left, after v, make the number.
use Rattle.std.proofs.Common.{◌≡◌, drop}
use Rattle.protocol.specs.Text.{read_number, number_from}
use Rattle.protocol.proofs.text.read_decimal.Given as goal

abbrev pub invariant-loop-c : goal.invariant-loop-c
invariant-loop-c l = read_number l.text ≡ number_from l.v (drop l.c-index l.text)

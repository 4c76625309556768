-- The bytes before i are there.
use Rattle.std.proofs.Common.{◌≡◌, take}
use Rattle.protocol.specs.Text.{hex_bytes}
use Rattle.protocol.proofs.text.decode_hex.Given as goal

abbrev pub invariant-loop-i : goal.invariant-loop-i
invariant-loop-i l = take l.i l.out ≡ take l.i (hex_bytes l.text)

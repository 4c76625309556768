-- What was typed so far.
use Rattle.std.proofs.Common.{◌≡◌, take}
use Rattle.protocol.specs.Text.{hex_text}
use Rattle.protocol.specs.Typed.{typed}
use Rattle.protocol.proofs.output.Output.put_hex.Given as goal

abbrev pub invariant-loop-b : goal.invariant-loop-b
invariant-loop-b l = l.self ≡ typed l.initial.self (hex_text (take l.b-index l.s))

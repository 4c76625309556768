-- What was typed so far.
use Rattle.std.proofs.Common.{◌≡◌, take}
use Rattle.protocol.specs.Typed.{typed}
use Rattle.protocol.proofs.output.Output.put_text.Given as goal

abbrev pub invariant-loop-c : goal.invariant-loop-c
invariant-loop-c l = l.self ≡ typed l.fn.self (take l.c-index l.text)

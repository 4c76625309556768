-- What is left to print, behind what was, is all of it.
use Rattle.std.proofs.Common.{◌≡◌, ◌-◌, ◌^◌}
use Rattle.protocol.specs.Kinds.{form}
use Rattle.protocol.specs.Typed.{typed}
use Rattle.protocol.specs.Printed.{left_told, printing, items_text, print_start}
use Rattle.protocol.proofs.printer.Left.put_items.Given as goal

abbrev pub invariant-loop : goal.invariant-loop
invariant-loop l =
    typed l.fn.out (items_text (2 ^ 64 - 1) (left_told l.fn.self) (print_start (form l.fn.format)))
    ≡ typed l.out (items_text (2 ^ 64 - 1 - l.counter) (left_told l.fn.self) (printing l.printed))

use Rattle.std.proofs.Common.{sym, ◌∙◌, ◌-◌, ◌^◌, arith}
use Rattle.protocol.specs.Printed.{left_told, printing}
use Rattle.protocol.proofs.PrintLaws.{print_more, print_over, print_end}
use Rattle.protocol.proofs.printer.Left.put_items.Goals as goal

pub returns-in_default : goal.returns-in_default
returns-in_default c =
    let l = c.loop in
    sym (l.invariant ∙ print_over (left_told c.args.self) l.out (2 ^ 64 - 1 - l.counter) (printing l.printed) (sym c.in_default.ensures))

pub loop-preserved : goal.loop-preserved
loop-preserved c =
    let l = c.loop in
    l.invariant ∙ print_more (left_told c.args.self) l.out (2 ^ 64 - 1) l.counter (printing l.printed) (omega arith) (sym c.in-Some.ensures) c.put_item.ensures c.past-printed.ensures

pub returns : goal.returns
returns c =
    let l = c.loop in
    sym (l.invariant ∙ print_end (left_told c.args.self) l.out (2 ^ 64 - 1) l.counter (printing l.printed) (omega arith))

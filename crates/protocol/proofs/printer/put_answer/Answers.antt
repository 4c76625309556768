use Rattle.std.proofs.Common.{sym, ◌∙◌}
use Rattle.protocol.specs.Kinds.{form}
use Rattle.protocol.specs.Printed.{left_told}
use Rattle.protocol.proofs.PrintLaws.{answer_typed}
use Rattle.protocol.proofs.printer.put_answer.Goals as goal

pub returns-then-is_clean : goal.returns-then-is_clean
returns-then-is_clean c =
    answer_typed (left_told c.args.left) c.args.is_own c.args.out.now (form c.args.format) c.format_of.ensures (sym c.if-is_clean.true ∙ c.is_clean.ensures)
    c.put_head.ensures c.put_items.ensures c.put_text.ensures

pub returns-else-is_clean : goal.returns-else-is_clean
returns-else-is_clean c =
    answer_typed (left_told c.args.left) c.args.is_own c.args.out.now (form c.args.format) c.format_of.ensures (sym c.if-is_clean.false ∙ c.is_clean.ensures)
    c.put_head.ensures c.put_items.ensures c.put_text-else-is_clean.ensures

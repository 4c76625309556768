use Rattle.std.proofs.Common.{arith, ◌∙◌}
use Rattle.header.specs.Sequence.{sequence_in}
use Rattle.assemble.proofs.PlanLaws.{new-there, renewed-pictures, header-new}
use Rattle.assemble.proofs.plan.plan_renewed.Goals as goal

pub returns : goal.returns
returns c =
    let a = c.args in
    let s = a.segments.picture.now in
    let rs = a.segments.numbers.now in
    let e = c.emit_sequence_header.ensures in
    let n = new-there _ _ c.emit_sequence_header.result _ (sequence_in a.sequence) c.requires (omega arith) e.out_after e.result_value c.unwrap_or-len.ensures in
    c.plan_pictures.ensures ∙ renewed-pictures s rs (sequence_in a.sequence) _ _ n (header-new s rs _)

use Rattle.std.proofs.Common.{◌∙◌, arith}
use Rattle.listing.proofs.FileLaws.{not_whole, counts_is}
use Rattle.listing.proofs.file.find.Goals as goal

pub returns-then-file-gt65536 : goal.returns-then-file-gt65536
returns-then-file-gt65536 c = not_whole _ (λ t. omega (arith, t.small))

pub returns-in_err-sections : goal.returns-in_err-sections
returns-in_err-sections c = c.from_residual.ensures ∙ not_whole c.args.file.now (λ t. c.in_err-sections.ensures (omega (arith, t.sized)))

pub returns-in_err-segments : goal.returns-in_err-segments
returns-in_err-segments c =
    c.from_residual-in_err-segments.ensures ∙ not_whole c.args.file.now (λ t. c.in_err-segments.ensures (omega (arith, t.sized, c.in_ok-sections.ensures)))

pub returns-then-segments-count : goal.returns-then-segments-count
returns-then-segments-count c =
    let k = counts_is c.args.file.now c.read_u32-picture.ensures c.read_u32-count.ensures in
    not_whole _ (λ t. omega (arith, t.sized, k))

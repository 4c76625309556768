use Rattle.std.proofs.Common.{arith}
use Rattle.listing.proofs.TextLaws.{fit_over, fit_turn, fit_end}
use Rattle.listing.proofs.text.lines_fit.Goals as goal

pub returns-then-n-left : goal.returns-then-n-left
returns-then-n-left c = fit_over c.loop-i.invariant _ (omega arith) c.line_len-n.ensures c.if-n-left.true

pub loop-i-preserved : goal.loop-i-preserved
loop-i-preserved c = fit_turn c.loop-i.invariant _ (omega arith) c.line_len-n.ensures c.if-n-left.false

pub returns : goal.returns
returns c = fit_end c.loop-i.invariant (omega arith)

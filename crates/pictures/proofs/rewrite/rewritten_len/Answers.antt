use Rattle.std.proofs.Common.{rules}
use Rattle.pictures.specs.code.Rewrite.{obu_in}
use Rattle.pictures.proofs.RewriteLaws.{size-start, size-next, size-end, size-stop, renewed-length}
use Rattle.pictures.proofs.rewrite.rewritten_len.Goals as goal

pub loop-found-init : goal.loop-found-init
loop-found-init c = size-start _ _ (rw c.into_iter-found-iterator.ensures.into_iter_gives c.new-found-items.ensures)

pub returns-in_err-o : goal.returns-in_err-o
returns-in_err-o c =
    let e = size-stop c.loop-found.invariant _ c.next.new.self (rw c.in_err-o.was at c.in-Some.ensures.steps) in
    search (rules, e)

pub loop-found-preserved : goal.loop-found-preserved
loop-found-preserved c =
    let l = renewed-length c.args.new.now (obu_in c.args.unit.now c.in_ok-o.o) c.renewed_payload.ensures in
    size-next c.loop-found.invariant _ c.next.new.self (rw c.in_ok-o.was at c.in-Some.ensures.steps) _ _ (rw l at c.obu_len.ensures) c.saturating_add-n.ensures

pub returns : goal.returns
returns c = size-end c.loop-found.invariant c.next.new.self c.in-None.ensures.steps

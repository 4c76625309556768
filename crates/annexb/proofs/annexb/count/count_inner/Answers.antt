use Rattle.std.proofs.Common.{arith, rules, ap, ◌∙◌}
use Rattle.std.specs.Prelude.{Some, None, Ok, Err}
use Rattle.obu.specs.Place.{extension_says}
use Rattle.obu.proofs.PlaceLaws.{is-end}
use Rattle.obu.proofs.WalkLaws.{over-start, over-next, given-here, turn}
use Rattle.annexb.specs.code.Join.{framed_length}
use Rattle.annexb.proofs.JoinLaws.{counting-start, counting-next, counting-stop, counting-end, inner-few}
use Rattle.annexb.proofs.annexb.count.count_inner.Goals as goal

pub loop-found-init : goal.loop-found-init
loop-found-init c =
    let e = c.into_iter-found-iterator.ensures.into_iter_gives in
    (over-start {at = 0} (rw e c.new-found-items.ensures), rw (e, c.new-found-items.ensures.1) (counting-start _))

pub returns-in_err-o-clause-result_value : goal.returns-in_err-o-clause-result_value
returns-in_err-o-clause-result_value c =
    let i = c.loop-found.invariant in
    let e = counting-stop i.1 _ (given-here i.0 (Some (Err c.in_err-o.field-0.0)) c.next.new.self (rw c.in_err-o.was at c.in-Some.ensures.steps)) in
    search (rules, e)

pub inner_len-requires : goal.inner_len-requires
inner_len-requires c =
    let i = c.loop-found.invariant in
    let s = rw c.in_ok-o.was at c.in-Some.ensures.steps in
    let g = turn _ c.next.new.self i.0 s in
    omega (arith, c.size.ensures, g.placed.ends, g.placed.within, c.requires)

pub framed_len-n-requires : goal.framed_len-n-requires
framed_len-n-requires c =
    let i = c.loop-found.invariant in
    let s = rw c.in_ok-o.was at c.in-Some.ensures.steps in
    let g = turn _ c.next.new.self i.0 s in
    let o = c.in_ok-o.o in
    omega (arith, c.inner_len.ensures, c.size.ensures, (inner-few (extension_says o.extension) c.size.result (omega (arith, c.size.ensures, g.placed.within, c.requires))).0, g.placed.within, c.requires)

pub overflow_add-n : goal.overflow_add-n
overflow_add-n c =
    let i = c.loop-found.invariant in
    let s = rw c.in_ok-o.was at c.in-Some.ensures.steps in
    let g = turn _ c.next.new.self i.0 s in
    let k = rw c.size.ensures at c.inner_len.ensures in
    let n = counting-next i.1 c.requires g (c.framed_len-n.ensures ∙ ap framed_length k) in
    omega (arith, n.few, g.placed.within, c.requires)

pub loop-found-preserved : goal.loop-found-preserved
loop-found-preserved c =
    let i = c.loop-found.invariant in
    let s = rw c.in_ok-o.was at c.in-Some.ensures.steps in
    let g = turn _ c.next.new.self i.0 s in
    let k = rw c.size.ensures at c.inner_len.ensures in
    (over-next i.0 (Some (Ok c.in_ok-o.o)) c.next.new.self s, rw s.1.1 (counting-next i.1 c.requires g (c.framed_len-n.ensures ∙ ap framed_length k)))

pub returns-clause-result_value : goal.returns-clause-result_value
returns-clause-result_value c =
    let i = c.loop-found.invariant in
    counting-end i.1 (is-end _ _ (given-here i.0 None c.next.new.self c.in-None.ensures.steps))

pub returns-clause-at_most : goal.returns-clause-at_most
returns-clause-at_most c = let i = c.loop-found.invariant in omega (arith, i.1.few, i.1.within)

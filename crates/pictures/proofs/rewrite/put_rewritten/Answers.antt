use Rattle.std.proofs.Common.{arith, ap, ◌∙◌}
use Rattle.std.specs.Prelude.{Some, Ok}
use Rattle.bitio.specs.Lent.{pasted}
use Rattle.obu.specs.Walk.{GivesObu}
use Rattle.pictures.specs.code.Rewrite.{obu_in}
use Rattle.pictures.proofs.RewriteLaws.{rewrite-start, rewrite-ok, rewrite-passes, rewrite-room, rewrite-next, rewrite-end, renewed-length, renewed-obu}
use Rattle.pictures.proofs.rewrite.put_rewritten.Goals as goal

pub loop-found-init : goal.loop-found-init
loop-found-init c = rewrite-start _ _ _ _ (rw c.into_iter-found-iterator.ensures.into_iter_gives c.new-found-items.ensures) c.requires.reads c.requires.room

pub unwrap-o-requires : goal.unwrap-o-requires
unwrap-o-requires c = rewrite-ok c.loop-found.invariant _ c.next.new.self c.in-Some.ensures.steps

pub put_measured-to-requires : goal.put_measured-to-requires
put_measured-to-requires c =
    let o = c.unwrap-o.result in
    let h : GivesObu c.loop-found.found-iterator (Some (Ok o)) c.next.new.self = rw c.unwrap-o.ensures at c.in-Some.ensures.steps in
    let l = renewed-length c.args.new.now (obu_in c.args.unit.now o) c.renewed_payload-payload.ensures in
    let r = rewrite-room c.loop-found.invariant o c.next.new.self h in
    (rewrite-passes c.loop-found.invariant o c.next.new.self h, omega (arith, l, r))

pub loop-found-preserved : goal.loop-found-preserved
loop-found-preserved c =
    let o = c.unwrap-o.result in
    let h : GivesObu c.loop-found.found-iterator (Some (Ok o)) c.next.new.self = rw c.unwrap-o.ensures at c.in-Some.ensures.steps in
    let x = obu_in c.args.unit.now o in
    let l = renewed-length c.args.new.now x c.renewed_payload-payload.ensures in
    let b = renewed-obu c.args.new.now x c.renewed_payload-payload.ensures in
    let w = c.put_measured-to.ensures in
    rewrite-next c.loop-found.invariant o c.next.new.self h (omega (arith, l, w.0), w.1 ∙ ap (pasted _ _) b)

pub returns : goal.returns
returns c = rewrite-end c.loop-found.invariant c.next.new.self c.in-None.ensures.steps

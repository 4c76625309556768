use Rattle.std.specs.Prelude.{Some, Ok}
use Rattle.container.proofs.RangeLaws.{within-start, within-next, within-one, within-end, within-sound, put-start, put-passes, put-room, put_next, put-end}
use Rattle.container.proofs.ranges.put_written.Goals as goal

pub loop-found-init : goal.loop-found-init
loop-found-init c =
    let e = c.into_iter-found-iterator.ensures.into_iter_gives in
    (within-start c.requires.range (rw e c.within-found-items.ensures), rw (e, c.within-found-items.ensures.1) (put-start c.requires))

pub returns-in_default : goal.returns-in_default
returns-in_default c =
    let i = c.loop-found.invariant in
    absurd (within-sound i.0 c.next.new.self i.1.range _ (rw c.in_default.is at c.in-Some.ensures.steps))

pub put_kept-w-requires : goal.put_kept-w-requires
put_kept-w-requires c =
    let i = c.loop-found.invariant in
    let t = within-one i.0 c.next.new.self _ (rw c.in-Ok.is at c.in-Some.ensures.steps) in
    (put-passes t.1, put-room i.1 t.0 t.1)

pub loop-found-preserved : goal.loop-found-preserved
loop-found-preserved c =
    let i = c.loop-found.invariant in
    let s = rw c.in-Ok.is at c.in-Some.ensures.steps in
    let t = within-one i.0 c.next.new.self _ s in
    (within-next i.0 c.next.new.self (Some (Ok c.in-Ok.o)) s, rw s.1.1 (put_next i.1 t.0 t.1 c.put_kept-w.ensures))

pub returns : goal.returns
returns c =
    let i = c.loop-found.invariant in
    put-end i.1 (within-end i.0 c.next.new.self i.1.range c.in-None.ensures.steps)

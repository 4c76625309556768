use Rattle.std.proofs.Common.{arith}
use Rattle.std.specs.Prelude.{Some, Ok}
use Rattle.container.proofs.RangeLaws.{within-start, within-next, within-one, within-end, within-sound, measure-start, measure-short, measure-fits, measure-next, measure-end}
use Rattle.container.proofs.ranges.written_len.Goals as goal

pub loop-found-init : goal.loop-found-init
loop-found-init c =
    let e = c.into_iter-found-iterator.ensures.into_iter_gives in
    (within-start c.requires.range (rw e c.within-found-items.ensures), rw (e, c.within-found-items.ensures.1) (measure-start c.requires))

pub returns-in_default : goal.returns-in_default
returns-in_default c =
    let i = c.loop-found.invariant in
    absurd (within-sound i.0 c.next.new.self i.1.range _ (rw c.in_default.is at c.in-Some.ensures.steps))

pub kept_len-n-requires : goal.kept_len-n-requires
kept_len-n-requires c =
    let i = c.loop-found.invariant in
    let t = within-one i.0 c.next.new.self _ (rw c.in-Ok.is at c.in-Some.ensures.steps) in
    measure-short i.1 t.0 t.1

pub overflow_add-n : goal.overflow_add-n
overflow_add-n c =
    let i = c.loop-found.invariant in
    let t = within-one i.0 c.next.new.self _ (rw c.in-Ok.is at c.in-Some.ensures.steps) in
    omega (arith, measure-fits i.1 t.0 t.1 c.kept_len-n.ensures)

pub loop-found-preserved : goal.loop-found-preserved
loop-found-preserved c =
    let i = c.loop-found.invariant in
    let s = rw c.in-Ok.is at c.in-Some.ensures.steps in
    let t = within-one i.0 c.next.new.self _ s in
    (within-next i.0 c.next.new.self (Some (Ok c.in-Ok.o)) s, rw s.1.1 (measure-next i.1 t.0 t.1 c.kept_len-n.ensures))

pub returns : goal.returns
returns c =
    let i = c.loop-found.invariant in
    measure-end i.1 (within-end i.0 c.next.new.self i.1.range c.in-None.ensures.steps)

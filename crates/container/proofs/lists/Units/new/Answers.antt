use Rattle.container.proofs.ListLaws.{checking-start, checking-next, checking-falls, checking-passes, checking-other, checking-good}
use Rattle.container.proofs.lists.Units.new.Goals.{then-end-at-via-then-end-at, then-end-at-via-else-end-at+then-end-bytes}
use Rattle.container.proofs.lists.Units.new.Goals as goal

pub loop-end-init : goal.loop-end-init
loop-end-init c = checking-start

pub returns-then-end-at : goal.returns-then-end-at
returns-then-end-at c =
    let i = c.loop-end.invariant in
    elim c.then-end-at.branch [
      | then-end-at-via-then-end-at w ↦ checking-falls i c.loop-end-test.true w.if-end-at.true
      | then-end-at-via-else-end-at+then-end-bytes w ↦ checking-passes i c.loop-end-test.true w.if-end-bytes.true
    ]

pub loop-end-preserved : goal.loop-end-preserved
loop-end-preserved c = checking-next c.loop-end.invariant c.loop-end-test.true c.if-end-at.false c.if-end-bytes.false

pub returns-then-at-bytes : goal.returns-then-at-bytes
returns-then-at-bytes c = checking-other c.loop-end.invariant c.loop-end-test.false c.if-at-bytes.true

pub invariant_of-result : goal.invariant_of-result
invariant_of-result c = record { is_list = checking-good c.loop-end.invariant c.loop-end-test.false c.if-at-bytes.false }

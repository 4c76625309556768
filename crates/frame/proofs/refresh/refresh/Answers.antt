use Rattle.std.proofs.Common.{arith, sym, ◌∙◌, length-set}
use Rattle.std.proofs.lemmas.List.{set-get_or}
use Rattle.frame.proofs.RefreshLaws.{sweep-set, sweep-skip, sweep-end}
use Rattle.frame.proofs.refresh.refresh.Goals as goal
use Rattle.frame.proofs.refresh.refresh.Goals.{then-bit-eq1, else-bit-eq1}

pub returns : goal.returns
returns g c =
    let l = c.loop-i in
    sym (sweep-end l.i _ _ l.slots (omega arith)) ∙ l.invariant.left

pub loop-i-preserved : goal.loop-i-preserved
loop-i-preserved g c =
    let l = c.loop-i in
    let h = l.invariant in
    elim c.if-bit-eq1.branch [
      | then-bit-eq1 w ↦
          rw w.slots-is (record { size = length-set l.slots l.i _ ∙ h.size; left = sweep-set l.i c.args.flags _ l.slots (omega arith) w.if-bit-eq1.true ∙ h.left })
      | else-bit-eq1 w ↦
          rw (w.slots-is, set-get_or l.slots l.i _) (record { size = h.size; left = sweep-skip l.i c.args.flags _ l.slots (omega arith) w.if-bit-eq1.false ∙ h.left })
    ]

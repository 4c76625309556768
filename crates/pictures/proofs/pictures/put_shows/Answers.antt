use Rattle.std.proofs.Common.{arith, subst, sym, ℕ, ◌<◌}
use Rattle.pictures.proofs.ShowLaws.{show-start, show-room, show-turn, show-end, slot_small}
use Rattle.pictures.proofs.pictures.put_shows.Goals as goal

pub loop-i-init : goal.loop-i-init
loop-i-init c = show-start _ _ _ _ _

pub put_show-requires : goal.put_show-requires
put_show-requires c =
    record { room = show-room c.loop-i.invariant (omega arith) c.requires; slot = subst (λ (n : ℕ). n < 8) (sym c.slot_or_zero-slot.ensures) (slot_small _ _ _ _) }

pub loop-i-preserved : goal.loop-i-preserved
loop-i-preserved c = show-turn c.loop-i.invariant (omega arith) c.requires _ _ _ _ c.key.ensures c.golden.ensures c.slot_or_zero-slot.ensures c.put_show.ensures

pub returns : goal.returns
returns c = show-end c.loop-i.invariant (omega arith)

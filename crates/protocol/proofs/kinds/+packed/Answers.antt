use Rattle.std.proofs.Common.{arith, ◌≡◌, ◌≤◌, ◌+◌, ◌-◌, List, length, take, drop}
use Rattle.std.proofs.lemmas.List.{length-take, length-drop}
use Rattle.protocol.specs.declared.kinds.Item.{Item}
use Rattle.protocol.proofs.KindLaws.{packed_small, packed_fits}
use Rattle.protocol.proofs.kinds.+packed.Goals as goal

others : (is : List Item) → 1 ≤ length is → length (take (length is - 1) (drop 1 is)) + 1 ≡ length is
others is h = simp (length-take, length-drop) (omega arith)

pub overflow_mul-result : goal.overflow_mul-result
overflow_mul-result t c = omega (arith, packed_fits _ _ (omega (arith, others c.args.items.now c.in-len1-up.len_at_least)) c.packed.ensures.bound)

pub overflow_add-result : goal.overflow_add-result
overflow_add-result t c = omega (arith, packed_fits _ _ (omega (arith, others c.args.items.now c.in-len1-up.len_at_least)) c.packed.ensures.bound)

pub returns-in-len1-up-clause-bound : goal.returns-in-len1-up-clause-bound
returns-in-len1-up-clause-bound t c = packed_small c.from.result c.packed.result _ _ (others c.args.items.now c.in-len1-up.len_at_least) c.from.ensures.1 c.packed.ensures.bound

use Rattle.std.proofs.Common.{refl, ap, ◌∙◌, ◌≡◌, ◌+◌, ℕ, Bool, true, false, length}
use mir.Val.{bool_byte}
use Rattle.blocks.specs.code.Lay.{block_cue}
use Rattle.blocks.proofs.CountLaws.{counting-turn, counting-end}
use Rattle.blocks.proofs.blocks.count_segment.Goals as goal

-- a key is one cue
one_for : (key : Bool) → bool_byte key ≡ length (block_cue key 0)
one_for true = refl
one_for false = refl

pub loop-b-preserved : goal.loop-b-preserved
loop-b-preserved c = counting-turn c.loop-b.invariant _ c.in-Some.ensures.steps (ap (λ (k : ℕ). c.loop-b.count + k) (c.from-count.ensures ∙ one_for c.in-Some.b.key))

pub returns : goal.returns
returns c = counting-end c.loop-b.invariant c.in-None.ensures.steps

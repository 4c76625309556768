use Rattle.replay_lists.specs.Lists.{handed_told}
use Rattle.replay_lists.proofs.assembled.Slices.put_handed.Goals as goal

pub returns-clause-told : goal.returns-clause-told
unfolding handed_told
returns-clause-told c = rw (c.are_marked-is_clean.ensures, c.accounted.ensures, ← c.put_answer.ensures.told)

use Rattle.std.proofs.Common.{◌≡◌, drop}
use Rattle.protocol.specs.Answers.{numbers_told, with_numbers}
use Rattle.replay_lists.specs.Lists.{kind_fields}
use Rattle.replay_lists.proofs.assembled.put_told.Given as goal

-- what is left from here is the whole from the start
abbrev pub invariant-loop-v : goal.invariant-loop-v
invariant-loop-v l = record {
  left : with_numbers (numbers_told l.numbers) (kind_fields l.item l.others (drop l.v-index l.list))
      ≡ with_numbers (numbers_told l.fn.numbers) (kind_fields l.fn.first l.others l.list);
  lent : l.numbers.numbers.ghost_name ≡ l.fn.numbers.numbers.ghost_name;
}

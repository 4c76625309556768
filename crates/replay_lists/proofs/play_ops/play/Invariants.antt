use Rattle.std.proofs.Common.{◌≡◌, drop}
use Rattle.player.specs.Player.{start}
use Rattle.player.specs.Values.{state_says}
use Rattle.protocol.specs.Answers.{parts_of, numbered, numbers_told, with_numbers}
use Rattle.replay_lists.specs.Plays.{play_fields}
use Rattle.replay_lists.proofs.play_ops.play.Given as goal

-- what is left from here is the whole from the start
abbrev pub invariant-loop-i : goal.invariant-loop-i
invariant-loop-i l = record {
  left : with_numbers (numbers_told l.told) (play_fields l.s l.ends (state_says l.state) l.i (drop l.i l.positions))
      ≡ with_numbers (numbered (parts_of 0 0) l.fn.numbers) (play_fields l.s l.ends start 0 l.positions);
  lent : l.told.numbers.ghost_name ≡ l.initial.told.numbers.ghost_name;
}

use Rattle.std.proofs.Common.{◌≡◌, ◌-◌}
use Rattle.protocol.specs.Answers.{line, parts_of, parted, with_parts}
use Rattle.replay_lists.specs.Lists.{entry_units}
use Rattle.replay_lists.proofs.assembled.Slices.put_units.Given as goal

-- what is left from here is the whole from the start
abbrev pub invariant-loop-entry : goal.invariant-loop-entry
invariant-loop-entry l =
    with_parts (parted (line l.answer) l.memory l.out_ends) (entry_units l.self.units.pictures.now l.self.units.ends.now l.self.units.shows.now l.entry (l.n - l.entry))
    ≡ with_parts (parted (parts_of 0 0) l.fn.memory l.fn.out_ends) (entry_units l.self.units.pictures.now l.self.units.ends.now l.self.units.shows.now 0 l.n)

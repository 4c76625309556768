-- The whole way, from picture bytes and segments to what each position shows from one cue on.
use Rattle.std.specs.Prelude.{ℕ, ◌≡◌, length, Result}
use denote.Triple.Both.{Both}
use Rattle.pictures.specs.declared.fault.Fault.{Fault}
use Rattle.pictures.specs.Says.{outcome_of}
use Rattle.pictures.specs.Assemble.{Outcome, stopped, made, and_also, overall, Output, units_of}
use Rattle.assemble.specs.Whole.{Lent, lent_after}
use Rattle.container.specs.Container.{Container}
use Rattle.playback.specs.Shown.{Shows}
use Rattle.playback.specs.Way.{PlayLent, shown, shown_after}

module _ (c : Container) (cue : ℕ) where
  -- what follows assembly's outcome x: its units gathered, written, read back and played from the cue
  unfoldable pub walk : Outcome Output → PlayLent → Outcome Shows
  walk x d = and_also x (λ o. overall (shown c (units_of o) cue d))

  -- and what it leaves; where assembly refuses, what was there
  abbrev pub walk_after : Outcome Output → PlayLent → PlayLent
  walk_after (stopped n i) d = d
  walk_after (made o) d = shown_after c (units_of o) cue d

-- the answer, assembly's six lent slices and the way's six, x being assembly's outcome into the former
pub record Walks (c : Container) (cue : ℕ) (x : Lent → Outcome Output) (r : Result ℕ Fault) (l : Both Lent Lent) (d : Both PlayLent PlayLent) : Type 0 where
  pub answer : outcome_of r ≡ and_also (walk c cue (x l.entry) d.entry) (λ ns. made (length ns))
  pub assembled : l.exit ≡ lent_after (x l.entry) l.entry
  pub way : d.exit ≡ walk_after c cue (x l.entry) d.entry

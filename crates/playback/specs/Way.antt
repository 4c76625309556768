-- The way of a list's units: gathered, written in a container, read back, and played from a cue.
-- Of lent memory only the lengths count. 35: a stage has no room; 34 and all others are the operations' own.
use Rattle.std.specs.Prelude.{ℕ, ◌≡◌, List, length, Result}
use denote.Triple.Both.{Both}
use Rattle.bitio.specs.Parse.{Answer, and_next}
use Rattle.bitio.specs.declared.refusal.Refusal.{Refusal}
use Rattle.container.specs.Limits.{bytes_room}
use Rattle.container.specs.Container.{Container, stream, annexb, read, write}
use Rattle.container.specs.Units.{sizes_of, count_of, out_after}
use Rattle.container.specs.declared.units.Sizes.{Sizes}
use Rattle.playback.specs.Lent.{Does, Store, store_room, store_after, store}
use Rattle.playback.specs.Gather.{gathered}
use Rattle.playback.specs.Shown.{Shows, all_say, from_cue}
use Rattle.playback.specs.declared.way.Form.{Form}
use Rattle.playback.specs.declared.way.Form.TheVariants.{Stream, AnnexB}
use Rattle.playback.specs.declared.way.WayBuffers.{WayBuffers}

abbrev pub form_says : Form → Container
form_says Stream = stream
form_says AnnexB = annexb

-- ---- the lent memory of each stage: that of the stage before it, and its own

pub record WriteLent : Type 0 where
  pub units : Store
  pub out : List ℕ

pub record CarryLent : Type 0 where
  pub written : WriteLent
  pub back : Store

pub record PlayLent : Type 0 where
  pub carried : CarryLent
  pub shown : Shows

-- and what their lent slices hold, at one moment
abbrev pub write_lent : (units unit_ends out : List ℕ) → WriteLent
write_lent units unit_ends out = record { units = store units unit_ends; out = out }

abbrev pub carry_lent : (units unit_ends out back back-ends : List ℕ) → CarryLent
carry_lent units unit_ends out back back-ends = record { written = write_lent units unit_ends out; back = store back back-ends }

abbrev pub play_lent : (units unit_ends out back back-ends : List ℕ) → Shows → PlayLent
play_lent units unit_ends out back back-ends shown = record { carried = carry_lent units unit_ends out back back-ends; shown = shown }

-- the same of those that the code is handed
abbrev pub play_lent_of : WayBuffers → PlayLent
play_lent_of b = play_lent b.units.now b.unit_ends.now b.out.now b.back.now b.back_ends.now (all_say b.shown.now)

-- the same memory, whatever it holds
pub record SameWayBuffers (old new : WayBuffers) : Type 0 where
  pub units : new.units.ghost_name ≡ old.units.ghost_name
  pub unit_ends : new.unit_ends.ghost_name ≡ old.unit_ends.ghost_name
  pub out : new.out.ghost_name ≡ old.out.ghost_name
  pub back : new.back.ghost_name ≡ old.back.ghost_name
  pub back_ends : new.back_ends.ghost_name ≡ old.back_ends.ghost_name
  pub shown : new.shown.ghost_name ≡ old.shown.ghost_name

-- ---- what each stage answers, and what it leaves

module _ (c : Container) (us : List (List ℕ)) where
  -- gathered and written
  unfoldable pub written : WriteLent → Answer (List ℕ)
  written d = and_next (gathered us (store_room d.units)) (write c (bytes_room (length d.out)))

  abbrev pub written_after : WriteLent → WriteLent
  written_after d = record { units = store_after (gathered us (store_room d.units)) d.units; out = out_after (written d) d.out }

  abbrev pub Writes : Result ℕ Refusal → Both WriteLent WriteLent → Type 0
  Writes = Does (λ d. count_of (written d)) written_after

  -- and read back
  unfoldable pub carried_units : CarryLent → Answer (List (List ℕ))
  carried_units d = and_next (written d.written) (read c (store_room d.back))

  abbrev pub carried_after : CarryLent → CarryLent
  carried_after d = record { written = written_after d.written; back = store_after (carried_units d) d.back }

  abbrev pub Carries : Result Sizes Refusal → Both CarryLent CarryLent → Type 0
  Carries = Does (λ d. sizes_of (carried_units d)) carried_after

  -- and played from the cue, an answer for each position
  module _ (cue : ℕ) where
    unfoldable pub shown : PlayLent → Answer Shows
    shown d = and_next (carried_units d.carried) (from_cue (length d.shown) cue)

    abbrev pub shown_after : PlayLent → PlayLent
    shown_after d = record { carried = carried_after d.carried; shown = out_after (shown d) d.shown }

    abbrev pub Plays : Result ℕ Refusal → Both PlayLent PlayLent → Type 0
    Plays = Does (λ d. count_of (shown d)) shown_after

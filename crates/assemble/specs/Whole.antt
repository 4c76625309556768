-- The whole of assembly, answered: its counts, and its outcome into lent slices.
use Rattle.std.specs.Prelude.{ℕ, ◌+◌, ◌*◌, ◌%◌, ◌≡◌, List, length, Result}
use Rattle.std.proofs.Math.Option.{none, some}
use denote.Triple.Both.{Both}
use Rattle.bitio.specs.Lent.{pasted}
use Rattle.pictures.specs.declared.settings.Settings.{Settings}
use Rattle.pictures.specs.declared.fault.Fault.{Fault}
use Rattle.pictures.specs.Says.{outcome_of}
use Rattle.pictures.specs.Assemble.{Outcome, stopped, made, and_also, Output, OutputRoom, assemble}
use Rattle.assemble.specs.declared.multi.Buffers.{Buffers}
use Rattle.assemble.specs.declared.multi.Counts.{Counts}

-- how much is handed out, and the first golden slot
abbrev pub counts : Output → Counts
counts o =
    record {
      units = length o.list;
      cues = length o.cues;
      picture = length o.picture;
      ends = length o.ends;
      shows = length o.shows;
      header = length o.header;
      golden_slot = o.slot;
    }

abbrev pub counts_of : Outcome Output → Outcome Counts
counts_of x = and_also x (λ o. made (counts o))

-- for C: 0, or 01's number; where 01 adds the segment, its number from 1 stands above 32 bits. Nothing is cut off below 2^32 - 1 segments
abbrev pub assembled_code : Outcome Counts → ℕ
assembled_code (made c) = 0
assembled_code (stopped k none) = k
assembled_code (stopped k (some i)) = k + (i % 4294967295 + 1) * 4294967296

-- the six lent slices, at one moment
pub record Lent : Type 0 where
  pub list : List ℕ
  pub cues : List ℕ
  pub pictures : List ℕ
  pub ends : List ℕ
  pub shows : List ℕ
  pub header : List ℕ

abbrev pub six : (list cues pictures ends shows header : List ℕ) → Lent
six list cues pictures ends shows header =
    record { list = list; cues = cues; pictures = pictures; ends = ends; shows = shows; header = header }

-- those that the code is handed
abbrev pub lent_of : Buffers → Lent
lent_of b = six b.list.now b.cues.now b.pictures.now b.ends.now b.shows.now b.header.now

-- the same memory, whatever it holds
pub record SameBuffers (old new : Buffers) : Type 0 where
  pub list : new.list.ghost_name ≡ old.list.ghost_name
  pub cues : new.cues.ghost_name ≡ old.cues.ghost_name
  pub pictures : new.pictures.ghost_name ≡ old.pictures.ghost_name
  pub ends : new.ends.ghost_name ≡ old.ends.ghost_name
  pub shows : new.shows.ghost_name ≡ old.shows.ghost_name
  pub header : new.header.ghost_name ≡ old.header.ghost_name

-- the room that lent slices have
abbrev pub output_room : Lent → OutputRoom
output_room d =
    record { list = length d.list; cues = length d.cues; picture = length d.pictures; ends = length d.ends; shows = length d.shows; header = length d.header }

-- the outcome of assembly into these
unfoldable pub outcome : List ℕ → List ℕ → Settings → Lent → Outcome Output
outcome s rs set d = assemble (output_room d) set s rs

-- what they hold afterwards: what was put at their heads, or what they held
abbrev pub lent_after : Outcome Output → Lent → Lent
lent_after (stopped n i) d = d
lent_after (made o) d =
    record {
      list = pasted d.list 0 o.list;
      cues = pasted d.cues 0 o.cues;
      pictures = pasted d.pictures 0 o.picture;
      ends = pasted d.ends 0 o.ends;
      shows = pasted d.shows 0 o.shows;
      header = pasted d.header 0 o.header;
    }

-- the answer, and the lent slices at exit, by the outcome into what they were at entry
pub record Handed (x : Lent → Outcome Output) (r : Result Counts Fault) (d : Both Lent Lent) : Type 0 where
  pub answer : outcome_of r ≡ counts_of (x d.entry)
  pub lent : d.exit ≡ lent_after (x d.entry) d.entry

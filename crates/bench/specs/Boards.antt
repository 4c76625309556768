-- Flat numbers as segment structs, and assembly by way of these.
use Rattle.std.specs.Prelude.{◌≡◌, ℕ, cond as pick, List, map, replicate, nat_le}
use Rattle.std.proofs.Math.Option.{none}
use Rattle.std.proofs.lemmas.List.Edits.{sets}
use denote.Triple.Both.{Both}
use Rattle.blocks.specs.Numbers.{head_segment, no_segment, records, is_whole, segment_count}
use Rattle.blocks.specs.declared.numbers.Segment.{Segment}
use Rattle.pictures.specs.Assemble.{Outcome, stopped, Output}
use Rattle.pictures.specs.declared.settings.Settings.{Settings}
use Rattle.assemble.specs.Whole.{Lent, outcome, lent_after, counts_of, assembled_code}

-- the segments of all records
abbrev pub boards : List ℕ → List Segment
boards rs = map head_segment (records rs)

-- the same in an array of 64, behind them empty ones
abbrev pub boards_in : List ℕ → List Segment
boards_in rs = sets (replicate 64 no_segment) 0 (boards rs)

-- assembly, where the numbers are those of at most 64 segments and no more
unfoldable pub boards_outcome : List ℕ → List ℕ → Settings → Lent → Outcome Output
boards_outcome s rs set l = pick (nat_le (segment_count rs) 64) (pick (is_whole rs) (outcome s rs set l) (stopped 4294967295 none)) (stopped 4294967295 none)

-- that, and the lent slices at exit
pub record Told (x : Lent → Outcome Output) (r : ℕ) (d : Both Lent Lent) : Type 0 where
  pub code : r ≡ assembled_code (counts_of (x d.entry))
  pub lent : d.exit ≡ lent_after (x d.entry) d.entry

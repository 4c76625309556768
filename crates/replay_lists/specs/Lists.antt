-- What a request to assemble is answered, from the slices that assembly is lent.
use Rattle.std.specs.Prelude.{ℕ, zero, suc, ◌+◌, ◌*◌, ◌/◌, ◌%◌, ◌^◌, min, List, [], ◌∷◌, ◌++◌, Bool, not, ◌&&◌, length, get_or, take, drop, replicate}
use Rattle.std.proofs.Math.Option.{none, some}
use Rattle.blocks.specs.Numbers.{record_of}
use Rattle.pictures.specs.declared.settings.Settings.{Settings}
use Rattle.pictures.specs.Assemble.{Outcome, stopped, made, Output, named}
use Rattle.assemble.specs.Whole.{Lent, six, outcome, lent_after, counts_of}
use Rattle.assemble.specs.declared.multi.Counts.{Counts}
use Rattle.protocol.specs.declared.lent.Lent.{Lent as LineLent}
use Rattle.protocol.specs.Answers.{Line, parts_of, refused_with}
use Rattle.protocol.specs.Kinds.{plain, after_comma, item_code}
use Rattle.protocol.specs.declared.kinds.Item.{Item}
use Rattle.protocol.specs.declared.kinds.Kind.TheVariants.{Number, Named}
use Rattle.protocol.specs.Marked.{byte_mark, end_mark, is_marked}
use Rattle.obu.specs.Place.{part}
use Rattle.protocol.specs.Told.{Told, told, tell_numbers, tell_parts}
use Rattle.replay_lists.specs.declared.assembled.Slices.{Slices}

-- ---- what is asked: the fields GOP FPS DEN, then the frames of each segment

abbrev pub settings_of : List ℕ → Settings
settings_of fs = record { gop = get_or fs 0 0; fps = get_or fs 1 0 % 2 ^ 32; den = get_or fs 2 0 % 2 ^ 32 }

-- segment i: its key and its golden are byte strings one behind the other, es their ends
abbrev pub segment_record : List ℕ → List ℕ → ℕ → List ℕ
segment_record es fs i =
    record_of (record {
      key_start = get_or (0 ∷ es) (2 * i) 0;
      key_end = get_or es (2 * i) 0;
      golden_start = get_or es (2 * i) 0;
      golden_end = get_or es (2 * i + 1) 0;
      frames = get_or fs (3 + i) 0;
    })

-- k segments from i on
unfoldable pub segment_records : List ℕ → List ℕ → ℕ → ℕ → List ℕ
segment_records es fs i zero = []
segment_records es fs i (suc k) = segment_record es fs i ++ segment_records es fs (suc i) k

-- two byte strings each; no line has more than so many
abbrev pub segments_asked : List ℕ → ℕ
segments_asked es = min (length es / 2) 10923

-- the slices that assembly is lent, in the code
abbrev pub handed : Slices → Lent
handed x = six x.units.list.now x.cues.now x.units.pictures.now x.units.ends.now x.units.shows.now x.header.now

-- list, cues and picture bytes as the request lends them, the others ample; all are marked
abbrev pub slices_lent : LineLent → Lent
slices_lent room =
    six (replicate (min room.ends 32768) end_mark) (replicate (min room.numbers 32768) end_mark) (replicate (min room.bytes 65536) byte_mark)
    (replicate 32768 end_mark) (replicate 54615 byte_mark) (replicate 32768 byte_mark)

-- ---- what is told, d being the slices after the call

-- how many entries could name a unit: four for a segment
abbrev pub entry_count : Counts → ℕ
entry_count c = 2 * min c.ends 65536

-- the units of k entries from n on
unfoldable pub entry_units : (pictures ends shows : List ℕ) → ℕ → ℕ → List (List ℕ)
entry_units ps es ss n zero = []
entry_units ps es ss n (suc k) = named ps es ss n ∷ entry_units ps es ss (suc n) k

-- every such unit, and the header behind them
abbrev pub parts_made : Counts → Lent → List (List ℕ)
parts_made c d = entry_units d.pictures d.ends d.shows 0 (entry_count c) ++ (part d.header 0 c.header ∷ [])

-- numbers that tell their kinds: that of the first, and that of the others
unfoldable pub kind_fields : Item → Item → List ℕ → List ℕ
kind_fields first others [] = []
kind_fields first others (v ∷ vs) = item_code first ∷ v ∷ kind_fields others others vs

-- how many units, the slot, the header's part; each cue, a comma before all but the first; the part that each entry names
abbrev pub numbers_made : Counts → (list cues : List ℕ) → List ℕ
numbers_made c list cues =
    (c.units ∷ c.golden_slot ∷ entry_count c ∷ []) ++ (kind_fields (plain Number) (after_comma Number) (take c.cues cues) ++ kind_fields (plain Named) (plain Named) (take c.units list))

-- in the memory s, es, ns lent to the answer; a refusal leaves its bytes and ends
unfoldable pub assembled_told : Outcome Counts → Lent → List ℕ → List ℕ → List ℕ → Told
assembled_told (made c) d s es ns = tell_numbers (tell_parts (told (parts_of 0 0) s es ns) (parts_made c d)) (numbers_made c d.list d.cues)
assembled_told (stopped k none) d s es ns = told (refused_with k) s es ns
assembled_told (stopped k (some i)) d s es ns = tell_numbers (told (refused_with k) s es ns) (i ∷ [])

-- how much of the slices the answer accounts for
abbrev pub accounted_for : Outcome Counts → Counts
accounted_for (stopped k i) = record { units = 0; cues = 0; picture = 0; ends = 0; shows = 0; header = 0; golden_slot = 0 }
accounted_for (made c) = c

-- all behind that is as it was marked
unfoldable pub slices_marked : Counts → Lent → Bool
slices_marked c d =
    ((((is_marked end_mark (drop c.units d.list) && is_marked end_mark (drop c.cues d.cues)) && is_marked end_mark (drop c.ends d.ends))
    && is_marked byte_mark (drop c.picture d.pictures)) && is_marked byte_mark (drop c.shows d.shows))
    && is_marked byte_mark (drop c.header d.header)

abbrev pub as_dirty : Bool → Line → Line
as_dirty dirty a = record a { is_dirty = dirty }

-- told as dirty, unless all is marked
unfoldable pub handed_told : Outcome Counts → Lent → List ℕ → List ℕ → List ℕ → Told
handed_told x d s es ns =
    told (as_dirty (not (slices_marked (accounted_for x) d)) (assembled_told x d s es ns).answer) (assembled_told x d s es ns).bytes (assembled_told x d s es ns).ends
    (assembled_told x d s es ns).numbers

-- ---- the whole, d being the slices that assembly is lent

unfoldable pub outcome_told : Outcome Output → Lent → List ℕ → List ℕ → List ℕ → Told
outcome_told x d s es ns = handed_told (counts_of x) (lent_after x d) s es ns

-- assemble GOP FPS DEN KEY GOLDEN FRAMES ..
unfoldable pub assemble_told : LineLent → List ℕ → List ℕ → List ℕ → List ℕ → List ℕ → List ℕ → Told
assemble_told room s es fs out-s out-es out-ns =
    outcome_told (outcome s (segment_records es fs 0 (segments_asked es)) (settings_of fs) (slices_lent room)) (slices_lent room) out-s out-es out-ns

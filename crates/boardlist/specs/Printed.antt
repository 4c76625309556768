-- What boardlist prints for any bytes (01, 'Unit list and cue list').
use Rattle.std.specs.Prelude.{ℕ, ◌≡◌, List, length, take, Result}
use denote.Triple.Both.{Both}
use Rattle.bitio.specs.Lent.{span, placed, lent}
use Rattle.bitio.specs.Refusal.{says}
use Rattle.bitio.specs.declared.refusal.Refusal.{Refusal}
use Rattle.pictures.specs.Assemble.{Outcome, stopped, made, Output}
use Rattle.assemble.specs.Whole.{Lent, six, outcome, lent_after}
use Rattle.assemble.specs.declared.multi.Counts.{Counts}
use Rattle.listing.specs.File.{FileReading, bad, full, read_layout, file_numbers, read_into, file_numbers_after}
use Rattle.listing.specs.Text.{listing, stopped_text, refused_text, bad_file}
use Rattle.boardlist.specs.declared.answer.Memory.{Memory}

-- the listing of what was made; a refusal, with its segment where it has one
abbrev pub text_of : Outcome Output → List ℕ
text_of (made o) = listing o.list (length o.cues) o.picture o.ends o.shows
text_of (stopped k i) = stopped_text k i

abbrev pub printed_of : FileReading → List ℕ → Lent → List ℕ
printed_of bad s d = bad_file
printed_of full s d = refused_text 35
printed_of (read_layout l) s d = text_of (outcome (span s l.start l.end) (file_numbers s) l.settings d)

-- the text for the bytes s, with these lent slices
unfoldable pub printed : (s numbers : List ℕ) → Lent → List ℕ
printed s numbers d = printed_of (read_into numbers s) s d

-- what those slices hold afterwards
abbrev pub slices_after_of : FileReading → List ℕ → Lent → Lent
slices_after_of bad s d = d
slices_after_of full s d = d
slices_after_of (read_layout l) s d = lent_after (outcome (span s l.start l.end) (file_numbers s) l.settings d) d

unfoldable pub slices_after : (s numbers : List ℕ) → Lent → Lent
slices_after s numbers d = slices_after_of (read_into numbers s) s d

-- ---- what the inner functions are told

-- the slices that are lent to assembly
abbrev pub lent_of : Memory → Lent
lent_of m = six m.made.list m.made.cues m.made.pictures m.made.ends m.made.shows m.made.header

-- the listing of what counts tell of lent memory
abbrev pub made_text : Counts → Lent → List ℕ
made_text c d = listing (take c.units d.list) c.cues (take c.picture d.pictures) (take c.ends d.ends) (take c.shows d.shows)

-- ---- what the functions say

-- the text t goes to the head of lent memory: the answer, and that memory
pub record Texted (t : List ℕ) (r : Result ℕ Refusal) (out : Both (List ℕ) (List ℕ)) : Type 0 where
  pub answer : says r ≡ placed out.entry 0 t
  pub bytes : out.exit ≡ lent out.entry 0 t

-- the text of assembly's outcome x into the lent slices, and what the memory holds then
pub record Prints (x : Lent → Outcome Output) (r : Result ℕ Refusal) (out : Both (List ℕ) (List ℕ)) (memory : Both Memory Memory) : Type 0 where
  pub text : Texted (text_of (x (lent_of memory.entry))) r out
  pub slices : lent_of memory.exit ≡ lent_after (x (lent_of memory.entry)) (lent_of memory.entry)
  pub kept : memory.exit.numbers ≡ memory.entry.numbers

-- the text for the bytes s, and what the memory holds then: the numbers read from them, and the lent slices
pub record Answers (s : List ℕ) (r : Result ℕ Refusal) (out : Both (List ℕ) (List ℕ)) (memory : Both Memory Memory) : Type 0 where
  pub text : Texted (printed s memory.entry.numbers (lent_of memory.entry)) r out
  pub stored : memory.exit.numbers ≡ file_numbers_after memory.entry.numbers s
  pub slices : lent_of memory.exit ≡ slices_after s memory.entry.numbers (lent_of memory.entry)

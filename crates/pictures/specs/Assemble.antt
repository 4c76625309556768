-- Assembly: from segments to what is handed out, with 01's refusals in their order.
use Rattle.std.specs.Prelude.{ℕ, suc, ◌+◌, ◌*◌, ◌/◌, ◌%◌, Bool, true, false, cond as pick, ◌&&◌, length, eqb, ltb, leb}
use mathlib.Core.List.{List, [], ◌∷◌, ◌++◌, map, flat_map}
use Rattle.std.proofs.Math.Option.{Option, none, some}
use Rattle.bitio.specs.Parse.{Answer, refused, accepted, answer, and_next}
use Rattle.bitio.specs.Limits.{limit}
use Rattle.obu.specs.Obu.{Obu, obus, obu_bytes}
use Rattle.obu.specs.Unit.{has, last_payload, is_sequence}
use Rattle.obu.specs.Place.{part, part_in}
use Rattle.header.specs.Sequence.{Sequence}
use Rattle.header.specs.Support.{supported_sequence}
use Rattle.blocks.specs.Blocks.{list_of, cues_of, total}
use Rattle.pictures.specs.Segments.{Segment, frames_of, segments_of}
use Rattle.pictures.specs.Prepare.{first_of, Settings, effective, renewal, Prepared, prepare, show_unit}

-- ---- answers

-- a refusal by 01's number, with its segment where 01 adds it, or what was made
pub data Outcome (A : Type 0) : Type 0 where
  stopped : ℕ → Option ℕ → Outcome A
  made : A → Outcome A

unfoldable pub and_also : {A B : Type 0} → Outcome A → (A → Outcome B) → Outcome B
and_also (stopped n i) f = stopped n i
and_also (made a) f = f a

-- an answer without what it holds
abbrev pub verdict : {A : Type 0} → Answer A → Answer Unit
verdict a = answer (λ _. tt) a

-- 01: assembly adds the segment, from 0
unfoldable pub in_segment : {A : Type 0} → ℕ → Answer A → Outcome A
in_segment i (refused n) = stopped n (some i)
in_segment i (accepted a) = made a

-- but not where the whole list is to blame: 21 to 23, 25, 34 to 36
unfoldable pub overall : {A : Type 0} → Answer A → Outcome A
overall (refused n) = stopped n none
overall (accepted a) = made a

-- ---- frames ordered and gop_size

-- 24: the first segment without frames, the first being segment i
unfoldable pub none_empty : ℕ → List ℕ → Outcome Unit
none_empty i [] = made tt
none_empty i (n ∷ ns) = pick (eqb n 0) (stopped 24 (some i)) (none_empty (suc i) ns)

-- 22: gop_size is 0 or 1; 23: fewer than two frames in all; 24: a segment has none; 25: over 5,000,000 in all.
-- The total has no bound here: a sum that saturates at a u64 is judged alike.
unfoldable pub sizes : ℕ → List ℕ → Outcome Unit
sizes gop ns =
    pick (ltb gop 2) (stopped 22 none) (
    pick (ltb (total ns) 2) (stopped 23 none) (
    and_also (none_empty 0 ns) (λ _.
    pick (ltb 5000000 (total ns)) (stopped 25 none) (made tt))))

-- ---- sequence headers

unfoldable pub same_bytes : List ℕ → List ℕ → Bool
same_bytes [] [] = true
same_bytes [] (b ∷ t) = false
same_bytes (a ∷ s) [] = false
same_bytes (a ∷ s) (b ∷ t) = eqb a b && same_bytes s t

-- 27: no sequence header, or the last one's payload is not s
abbrev pub same_header : List ℕ → List Obu → Answer Unit
same_header s os = pick (has is_sequence os && same_bytes (last_payload is_sequence os) s) (accepted tt) (refused 27)

-- later keys: 1 to 5, and 27
unfoldable pub same_headers : List ℕ → ℕ → List Segment → Outcome Unit
same_headers s i [] = made tt
same_headers s i (x ∷ xs) =
    and_also (in_segment i (and_next (obus x.key) (λ os. same_header s os))) (λ _.
    same_headers s (suc i) xs)

-- the sequence header OBU handed out: the first key's own, or a new one without extension
abbrev pub header_obu : Option (List ℕ) → Obu → List ℕ
header_obu none o = obu_bytes o
header_obu (some new) o = obu_bytes (record { type = 1; ext = none; payload = new })

-- ---- the segments

unfoldable pub prepare_all : Sequence → Option (List ℕ) → ℕ → List Segment → Outcome (List Prepared)
prepare_all q new i [] = made []
prepare_all q new i (x ∷ xs) =
    and_also (in_segment i (prepare q new x)) (λ b.
    and_also (prepare_all q new (suc i) xs) (λ bs.
    made (b ∷ bs)))

-- ---- what is handed out

-- 01: picture bytes: key, golden, by segment
abbrev pub picture_of : List Prepared → List ℕ
picture_of bs = flat_map (λ b. b.key ++ b.golden) bs

-- the end of each, the first starting at `at`
unfoldable pub ends_from : ℕ → List Prepared → List ℕ
ends_from at [] = []
ends_from at (b ∷ bs) =
    (at + length b.key) ∷ (at + length b.key + length b.golden) ∷ ends_from (at + length b.key + length b.golden) bs

-- 01: show bytes: five per segment, in order
abbrev pub shows_of : List Prepared → List ℕ
shows_of bs = flat_map (λ b. show_unit b.slot) bs

abbrev pub first_slot : List Prepared → ℕ
first_slot [] = 0
first_slot (b ∷ bs) = b.slot

-- 01: list and cues; picture bytes with the end of each unit; show bytes; sequence header OBU; first golden slot
pub record Output : Type 0 where
  pub list : List ℕ
  pub cues : List ℕ
  pub picture : List ℕ
  pub ends : List ℕ
  pub shows : List ℕ
  pub header : List ℕ
  pub slot : ℕ

abbrev pub output_of : ℕ → List ℕ → List ℕ → List Prepared → Output
output_of gop ns header bs =
    record {
      list = list_of gop ns;
      cues = cues_of (list_of gop ns);
      picture = picture_of bs;
      ends = ends_from 0 bs;
      shows = shows_of bs;
      header = header;
      slot = first_slot bs;
    }

-- lent room: entries, cues and ends by number, the others by bytes
pub record OutputRoom : Type 0 where
  pub list : ℕ
  pub cues : ℕ
  pub picture : ℕ
  pub ends : ℕ
  pub shows : ℕ
  pub header : ℕ

-- the bytes handed out, all together, are within the limit, and each lent buffer has room
unfoldable pub output_fits : OutputRoom → Output → Bool
output_fits room r =
    leb (length r.picture + length r.shows + length r.header) limit
    && leb (length r.list) room.list
    && leb (length r.cues) room.cues
    && leb (length r.picture) room.picture
    && leb (length r.ends) room.ends
    && leb (length r.shows) room.shows
    && leb (length r.header) room.header

-- ---- the whole

-- 21 no segments; 22 to 25; first key 1 to 5, 26, 14 to 20; later keys 1 to 5, 27; then per segment
unfoldable pub assembled : Settings → List Segment → Outcome Output
assembled set [] = stopped 21 none
assembled set (x ∷ xs) =
    and_also (sizes set.gop (frames_of (x ∷ xs))) (λ _.
    and_also (in_segment 0 (obus x.key)) (λ os.
    and_also (in_segment 0 (first_of 26 is_sequence os)) (λ o.
    and_also (in_segment 0 (supported_sequence o.payload)) (λ q.
    and_also (same_headers o.payload 1 xs) (λ _.
    and_also (prepare_all (effective set q) (renewal set q) 0 (x ∷ xs)) (λ bs.
    made (output_of set.gop (frames_of (x ∷ xs)) (header_obu (renewal set q) o) bs)))))))

-- 35 comes last, if lent room or the limit of output bytes cannot hold the result
abbrev pub fitted : OutputRoom → Output → Outcome Output
fitted room r = pick (output_fits room r) (made r) (stopped 35 none)

-- from the picture bytes s and the segments' numbers rs: 34 leads, 36 is next
unfoldable pub assemble : OutputRoom → Settings → List ℕ → List ℕ → Outcome Output
assemble room set s rs =
    pick (ltb limit (length s)) (stopped 34 none) (
    and_also (overall (segments_of s rs)) (λ xs.
    and_also (assembled set xs) (λ r. fitted room r)))

-- ---- the unit that a list entry names

-- the bytes that an entry n of a list stands for; of a number that names no unit, none
unfoldable pub named : List ℕ → List ℕ → List ℕ → ℕ → List ℕ
named picture ends shows n =
    pick (ltb (n % 4) 2) (part_in picture ends (2 * (n / 4) + n % 4)) (
    pick (eqb (n % 4) 2) (part shows (5 * (n / 4)) (5 * (n / 4) + 5)) [])

-- the list's units, in order
unfoldable pub units_of : Output → List (List ℕ)
units_of r = map (named r.picture r.ends r.shows) r.list

-- The parts of assembly on the flat numbers of the segments, once their ranges are known to lie within the picture bytes.
use Rattle.std.specs.Prelude.{ℕ, ◌+◌, List, [], map, Bool, true, false, cond as pick, length, Option as Optional, Some, None}
use Rattle.std.specs.Borrow.{Bor}
use Rattle.std.proofs.Math.Option.{Option, none, some}
use Rattle.bitio.specs.Parse.{Answer, refused, accepted, answer, and_next}
use Rattle.bitio.specs.Limits.{capped}
use Rattle.obu.specs.Obu.{Obu, obus}
use Rattle.obu.specs.Unit.{is_sequence}
use Rattle.header.specs.Sequence.{Sequence}
use Rattle.blocks.specs.Numbers.{records, records_behind}
use Rattle.pictures.specs.Segments.{Segment, segment_in}
use Rattle.pictures.specs.Prepare.{first_of, sent, asked, Prepared}
use Rattle.pictures.specs.Assemble.{Outcome, made, and_also, verdict, prepare_all, picture_of}

-- ---- segments

abbrev pub all_segments : List ℕ → List ℕ → List Segment
all_segments s rs = map (segment_in s) (records rs)

-- all but the first
abbrev pub later_segments : List ℕ → List ℕ → List Segment
later_segments s rs = map (segment_in s) (records_behind rs 1)

-- ---- the list's sequence header

-- the first sequence header OBU of a key: 1 to 5, 26
abbrev pub first_sequence : List ℕ → Answer Obu
first_sequence u = and_next (obus u) (λ os. first_of 26 is_sequence os)

-- ---- what is asked of a segment

-- 1 to 5, where units are read to be rewritten
abbrev pub readable : Bool → List ℕ → Answer Unit
readable rewriting u = pick rewriting (verdict (obus u)) (accepted tt)

-- the slot that the show units of a segment name, or its first refusal
unfoldable pub judged : Sequence → Bool → List ℕ → List ℕ → Answer ℕ
judged q rewriting k g =
    and_next (readable rewriting k) (λ _.
    and_next (readable rewriting g) (λ _.
    asked q k g (λ slot. accepted slot)))

-- ---- units as they go out

-- the new payload of sequence headers, where they are replaced, as it is lent
abbrev pub lent : Optional (Bor (List ℕ)) → Option (List ℕ)
lent None = none
lent (Some new) = some new.now

-- whether units are rewritten
abbrev pub rewriting : Option (List ℕ) → Bool
rewriting none = false
rewriting (some new) = true

-- what is in an answer, or d
abbrev pub answer_or : {A : Type 0} → A → Answer A → A
answer_or d (refused k) = d
answer_or d (accepted a) = a

-- a unit's bytes as they go out; one that is refused has none
abbrev pub sent_bytes : Option (List ℕ) → List ℕ → List ℕ
sent_bytes new u = answer_or [] (sent new u)

-- a segment's units as they go out, and its slot; what is refused has none
abbrev pub prepared_of : Sequence → Option (List ℕ) → Segment → Prepared
prepared_of q new x =
    record {
      key = sent_bytes new x.key;
      golden = sent_bytes new x.golden;
      slot = answer_or 0 (judged q (rewriting new) x.key x.golden);
    }

abbrev pub all_prepared : Sequence → Option (List ℕ) → List Segment → List Prepared
all_prepared q new xs = map (prepared_of q new) xs

-- a segment's units as they go out; the slot plays no part
abbrev pub sent_of : Option (List ℕ) → Segment → Prepared
sent_of new x = record { key = sent_bytes new x.key; golden = sent_bytes new x.golden; slot = 0 }

abbrev pub all_sent : Option (List ℕ) → List Segment → List Prepared
all_sent new xs = map (sent_of new) xs

-- the slots that the show units of the segments name; 0 for a segment that is refused
abbrev pub slots_of : Sequence → Bool → List Segment → List ℕ
slots_of q rewriting xs = map (λ x. answer_or 0 (judged q rewriting x.key x.golden)) xs

-- how many picture bytes there are, or the first refusal
abbrev pub measured : Sequence → Option (List ℕ) → List Segment → Outcome ℕ
measured q new xs = and_also (prepare_all q new 0 xs) (λ bs. made (capped (length (picture_of bs))))

-- how many picture bytes the units of one segment have as they go out, or its first refusal
abbrev pub measured_units : Sequence → Option (List ℕ) → List ℕ → List ℕ → Answer ℕ
measured_units q new k g = answer (λ _. capped (length (sent_bytes new k) + length (sent_bytes new g))) (judged q (rewriting new) k g)

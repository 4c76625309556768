-- Assembly as the code decides it, stage by stage, before anything is written: each stage goes on to the end.
use Rattle.std.specs.Prelude.{ℕ, ◌+◌, ◌*◌, ◌≡◌, List, Bool, cond as pick, ◌&&◌, length, leb, ltb, Result, Ok, Err}
use Rattle.std.proofs.Math.Option.{Option, none, some}
use Rattle.header.specs.Support.{supported_sequence}
use Rattle.bitio.specs.Parse.{accepted}
use Rattle.bitio.specs.Refusal.{number}
use Rattle.bitio.specs.Limits.{limit, capped}
use Rattle.obu.specs.Obu.{Obu, obu_bytes}
use Rattle.obu.specs.Place.{part, extension_says}
use Rattle.obu.specs.Write.{obu}
use Rattle.header.specs.Sequence.{Sequence, sequence_in}
use Rattle.blocks.specs.Blocks.{list_of, cues_of}
use Rattle.blocks.specs.Numbers.{head_key, head_golden, segment_count, frames_in}
use Rattle.pictures.specs.Prepare.{effective, renewal, Prepared}
use Rattle.pictures.specs.declared.settings.Settings.{Settings}
use Rattle.pictures.specs.Assemble.{Outcome, stopped, made, and_also, in_segment, same_headers, header_obu, prepare_all, picture_of, OutputRoom}
use Rattle.pictures.specs.Says.{segment_says}
use Rattle.pictures.specs.declared.fault.Fault.{Fault}
use Rattle.pictures.specs.Sizes.{sized_all, ranged}
use Rattle.pictures.specs.Flat.{all_segments, later_segments, first_sequence, judged, rewriting, answer_or, all_prepared}
use Rattle.assemble.specs.declared.multi.Counts.{Counts}
use Rattle.assemble.specs.declared.headers.Renewal.{Renewal}
use Rattle.assemble.specs.declared.headers.Headers.{Headers}
use Rattle.assemble.specs.declared.headers.Headers.TheVariants.{Own, Renewed}
use Rattle.assemble.specs.declared.plan.Plan.{Plan}

-- ---- the stages

-- what goes out: the header OBU, the units, and how many picture bytes there are as far as a usize counts
pub record Going : Type 0 where
  pub header : List ℕ
  pub units : List Prepared
  pub bytes : ℕ

abbrev pub going : List ℕ → List Prepared → Going
going header bs = record { header = header; units = bs; bytes = capped (length (picture_of bs)) }

-- some payload reads as q, and is supported
pub record WasRead (q : Sequence) : Type 0 where
  pub payload : List ℕ
  pub read : supported_sequence payload ≡ accepted q

module _ (s rs : List ℕ) where
  -- per segment: 1 to 5, 28, 14, 29 to 33
  unfoldable pub from_pictures : Sequence → Option (List ℕ) → List ℕ → Outcome Going
  from_pictures q new header =
      and_also (prepare_all q new 0 (all_segments s rs)) (λ bs. made (going header bs))

  -- the same, from the first key's header OBU o, which reads as q
  unfoldable pub from_timing : Settings → Obu → Sequence → Outcome Going
  from_timing set o q =
      and_also (prepare_all (effective set q) (renewal set q) 0 (all_segments s rs)) (λ bs. made (going (header_obu (renewal set q) o) bs))

  -- 14 to 20; later keys 1 to 5, 27
  unfoldable pub from_header : Settings → Obu → Outcome Going
  from_header set o =
      and_also (in_segment 0 (supported_sequence o.payload)) (λ q.
      and_also (same_headers o.payload 1 (later_segments s rs)) (λ _.
      from_timing set o q))

  -- first key 1 to 5, 26
  unfoldable pub from_key : Settings → Outcome Going
  from_key set = and_also (in_segment 0 (first_sequence (head_key s rs))) (λ o. from_header set o)

  -- 34, 36, 21 to 25
  unfoldable pub checked : ℕ → Outcome Unit
  checked gop = pick (ltb limit (length s)) (stopped 34 none) (and_also (ranged s rs) (λ _. sized_all gop (frames_in rs)))

  -- all but 35
  unfoldable pub planned : Settings → Outcome Going
  planned set = and_also (checked set.gop) (λ _. from_key set)

-- ---- what the code's plan says

-- a new payload, at the head of its array
abbrev pub new_payload : Renewal → List ℕ
new_payload new = part new.bytes 0 new.len

-- the payload that replaces sequence headers, where they are replaced
abbrev pub renewal_in : Headers → Option (List ℕ)
renewal_in (Own o) = none
renewal_in (Renewed new) = some (new_payload new)

-- the sequence header OBU handed out: its extension, its payload, and itself
abbrev pub extension_in : Headers → Option ℕ
extension_in (Own o) = extension_says o.extension
extension_in (Renewed new) = none

abbrev pub payload_in : List ℕ → List ℕ → Headers → List ℕ
payload_in s rs (Own o) = part (head_key s rs) o.start o.end
payload_in s rs (Renewed new) = new_payload new

unfoldable pub header_in : List ℕ → List ℕ → Headers → List ℕ
header_in s rs h = obu_bytes (obu 1 (extension_in h) (payload_in s rs h))

-- what goes out by a plan
abbrev pub plan_going : List ℕ → List ℕ → Plan → Going
plan_going s rs p =
    record {
      header = header_in s rs p.headers;
      units = all_prepared (sequence_in p.sequence) (renewal_in p.headers) (all_segments s rs);
      bytes = p.bytes;
    }

abbrev pub plan_says : List ℕ → List ℕ → Result Plan Fault → Outcome Going
plan_says s rs (Ok p) = made (plan_going s rs p)
plan_says s rs (Err f) = stopped (number f.refusal) (segment_says f.segment)

-- ---- how much there is to write

-- picture bytes and the header as far as a usize counts
abbrev pub needed : ℕ → List ℕ → List ℕ → Plan → Counts
needed gop s rs p =
    record {
      units = length (list_of gop (frames_in rs));
      cues = length (cues_of (list_of gop (frames_in rs)));
      picture = p.bytes;
      ends = 2 * segment_count rs;
      shows = 5 * segment_count rs;
      header = capped (length (header_in s rs p.headers));
      golden_slot = answer_or 0 (judged (sequence_in p.sequence) (rewriting (renewal_in p.headers)) (head_key s rs) (head_golden s rs));
    }

-- the bytes, all together, are within the limit, and each lent slice has room
unfoldable pub fits_in : OutputRoom → Counts → Bool
fits_in room c =
    leb (c.picture + c.shows + c.header) limit
    && leb c.units room.list
    && leb c.cues room.cues
    && leb c.picture room.picture
    && leb c.ends room.ends
    && leb c.shows room.shows
    && leb c.header room.header

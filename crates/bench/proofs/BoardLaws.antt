-- Laws of flat numbers as segment structs: one put into the array after the other, and assembly from these.
use Rattle.std.proofs.Common.{◌≡◌, ℕ, zero, suc, ◌+◌, ◌*◌, ◌%◌, ◌<◌, ◌≤◌, Bool, true, false, cond as pick, leb, List, ◌++◌, map, length, take, drop, set, replicate, sym, refl, ap, ◌∙◌, ap₂, add-one, arith, length-drop, take_at, eqb-true, le-leb}
use mathlib.Core.Option.{none}
use denote.Triple.Both.{Both}
use Rattle.std.specs.Prelude.{Result}
use lib.ListN.{length-map, length-replicate}
use lib.Seq.{sets, sets-eq, take-length}
use borrow.Author.Tests.{lt-leb}
use Rattle.blocks.specs.Numbers.{width, record_of, head_segment, no_segment, rest, segment_count, is_whole, first_records, record_at, records_from, records, records_behind}
use Rattle.blocks.specs.declared.numbers.Segment.{Segment}
use Rattle.blocks.proofs.NumberLaws.{first_more, behind-start, behind-end, behind_more, records-length}
use Rattle.pictures.specs.Assemble.{stopped, and_also}
use Rattle.pictures.specs.Says.{outcome_of}
use Rattle.pictures.specs.declared.fault.Fault.{Fault}
use Rattle.pictures.specs.declared.settings.Settings.{Settings}
use Rattle.assemble.specs.Whole.{Lent, Handed, outcome, lent_after, counts_of, assembled_code}
use Rattle.assemble.specs.declared.multi.Counts.{Counts}
use Rattle.assemble.specs.Records.{numbers_of, no_room, records_outcome}
use Rattle.bench.specs.Boards.{boards, boards_in, boards_outcome, Told}

-- ---- one after the other

-- i of the segments stand in l
pub record Filling (rs : List ℕ) (l : List Segment) (i : ℕ) : Type 0 where
  pub rest : sets l i (map head_segment (records_behind rs i)) ≡ boards_in rs

pub fill_start : (rs : List ℕ) (x : Segment) → x ≡ no_segment → Filling rs (replicate 64 x) 0
fill_start rs x e =
    record { rest = ap₂ (λ (y : Segment) (ls : List (List ℕ)). sets (replicate 64 y) 0 (map head_segment ls)) e (behind-start rs) }

module _ {rs : List ℕ} {l : List Segment} {i : ℕ} (f : Filling rs l i) where
  pub fill_end : segment_count rs ≤ i → l ≡ boards_in rs
  fill_end h = sym (ap (λ (ls : List (List ℕ)). sets l i (map head_segment ls)) (behind-end rs i h)) ∙ f.rest

  pub fill-turn : i < segment_count rs → (x : Segment) → x ≡ head_segment (record_at rs i) → Filling rs (set l i x) (i + 1)
  fill-turn h x e =
      record {
        rest =
            ap₂ (λ (y : Segment) (k : ℕ). sets (set l i y) k (map head_segment (records_behind rs (i + 1)))) e (add-one i)
            ∙ sym (ap (λ (ls : List (List ℕ)). sets l i (map head_segment ls)) (behind_more rs i h))
            ∙ f.rest;
      }

-- ---- the numbers again

numbers-from : (k : ℕ) (rs : List ℕ) → width * k ≤ length rs → numbers_of (map head_segment (records_from k rs)) ≡ first_records k rs
unfolding numbers_of records_from
numbers-from zero rs h = refl
numbers-from (suc k) rs h =
    let l = length-drop width rs in
    ap (λ (ns : List ℕ). record_of (head_segment rs) ++ ns) (numbers-from k (rest rs) (omega (arith, l))) ∙ sym (first_more k rs (omega arith))

numbers_of_lem : (rs : List ℕ) → is_whole rs ≡ true → numbers_of (boards rs) ≡ rs
numbers_of_lem rs h =
    let z = eqb-true (length rs % width) 0 h in
    let w : width * segment_count rs ≡ length rs = omega (arith, z) in
    numbers-from (segment_count rs) rs (omega (arith, w)) ∙ ap (λ (m : ℕ). take m rs) w ∙ take-length rs

boards-length : (rs : List ℕ) → length (boards rs) ≡ segment_count rs
boards-length rs = length-map (records rs) head_segment ∙ records-length (segment_count rs) rs

front_of_lem : (rs : List ℕ) → segment_count rs ≤ 64 → take (segment_count rs) (boards_in rs) ≡ boards rs
front_of_lem rs h =
    ap (take (segment_count rs)) (sets-eq (boards rs) (replicate 64 no_segment) 0 (omega (arith, boards-length rs, length-replicate 64 no_segment)))
    ∙ take_at (boards rs) (drop (0 + length (boards rs)) (replicate 64 no_segment)) (segment_count rs) (boards-length rs)

-- ---- assembly

-- 4294967295 is told where the numbers are unfit, and the lent slices are as they were
module _ (s rs : List ℕ) (set : Settings) (l : Lent) where
  unfit : stopped 4294967295 none ≡ boards_outcome s rs set l → Told (boards_outcome s rs set) 4294967295 (record { entry = l; exit = l })
  unfolding and_also
  unfit e = record { code = ap (λ x. assembled_code (counts_of x)) e; lent = ap (λ x. lent_after x l) e }

  pub unfit-many : 64 < segment_count rs → Told (boards_outcome s rs set) 4294967295 (record { entry = l; exit = l })
  unfolding boards_outcome
  unfit-many h = unfit (simp (lt-leb (segment_count rs) 64 h))

  pub unfit-part : segment_count rs ≤ 64 → is_whole rs ≡ false → Told (boards_outcome s rs set) 4294967295 (record { entry = l; exit = l })
  unfolding boards_outcome
  unfit-part h e = unfit (simp (le-leb (segment_count rs) 64 h, e))

-- by structs the outcome is the same
module _ (s rs : List ℕ) (set : Settings) where
  same : segment_count rs ≤ 64 → is_whole rs ≡ true → (d : List ℕ) → length d ≡ width * 64 → (l : Lent)
      → records_outcome s (boards rs) d set l ≡ boards_outcome s rs set l
  unfolding boards_outcome records_outcome
  same h w d f l =
      let k : leb (length (boards rs)) (segment_count d) ≡ true = le-leb (length (boards rs)) (segment_count d) (omega (arith, boards-length rs, f)) in
      ap₂ (λ (b : Bool) (ns : List ℕ). pick b (outcome s ns set l) (no_room s)) k (numbers_of_lem rs w)
      ∙ sym (ap₂ (λ (b : Bool) (c : Bool). pick b (pick c (outcome s rs set l) (stopped 4294967295 none)) (stopped 4294967295 none)) (le-leb (segment_count rs) 64 h) w)

  -- so what is handed out from the front of the array is told
  pub fit : (n : ℕ) → n ≡ segment_count rs → n ≤ 64 → is_whole rs ≡ true → (xs : List Segment) → xs ≡ boards_in rs → (r : Result Counts Fault) → (d : Both Lent Lent)
      → Handed (records_outcome s (take n xs) (replicate (width * 64) 0) set) r d → Told (boards_outcome s rs set) (assembled_code (outcome_of r)) d
  fit n g b w xs e r d h =
      let m : segment_count rs ≤ 64 = omega (arith, g, b) in
      let t : take n xs ≡ boards rs = ap₂ take g e ∙ front_of_lem rs m in
      let z : records_outcome s (take n xs) (replicate (width * 64) 0) set d.entry ≡ boards_outcome s rs set d.entry =
      ap (λ (ys : List Segment). records_outcome s ys (replicate (width * 64) 0) set d.entry) t
      ∙ same m w (replicate (width * 64) 0) (length-replicate {A = ℕ} (width * 64) 0) d.entry in
      record { code = ap assembled_code (h.answer ∙ ap counts_of z); lent = h.lent ∙ ap (λ x. lent_after x d.entry) z }

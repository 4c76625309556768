-- What is answered from a sequence payload and another is what is answered under the sequence header that was read.
use Prim.Native.Nat.{ℕ, ◌-◌}
use native.Mathlib.Omega.{arith}
use mathlib.Core.Path.{◌≡◌, refl, sym, ap, ◌∙◌}
use mathlib.Core.List.{List}
use mathlib.Core.Bool.{Bool, true, false, not, cond as pick}
use lib.Dec.{leb}
use lib.ListN.{length, take, replicate}
use lib.Seq.{take-append_seam}
use Rattle.bitio.specs.Limits.{limit, limited}
use Rattle.bitio.specs.Parse.{Answer, refused, accepted, answer, and_next}
use Rattle.header.specs.SequenceRules.{Rules, ours}
use Rattle.header.specs.SequenceOpening.{opening}
use Rattle.header.specs.SequencePoints.{operating_points, point_count, padded, no_point}
use Rattle.header.specs.SequenceCoding.{coding}
use Rattle.header.specs.Sequence.{Sequence, sequence_header, read_sequence, parse_sequence, in_array, sequence_of, sequence_in}
use Rattle.header.specs.declared.seq_header.SequenceObu.{SequenceObu}
use Rattle.header.proofs.LimitedLaws.{limited-read}
use Rattle.header.proofs.ReadLaws.{Holds, then-holds, then-any}
use Rattle.header.proofs.PointLaws.{points-count}
use Rattle.frame.proofs.FrameLaws.{answered}

-- whatever is answered under the sequence header
module _ {A : Type 0} (under : Sequence → Answer A) (s : List ℕ) where
  -- the sequence header reads as q: the answer is that under q
  pub from-read : (q : Sequence) → limited s (parse_sequence s) ≡ accepted q → limited s (and_next (parse_sequence s) under) ≡ under q
  unfolding limited and_next
  from-read q e = go (leb (length s) limit) (parse_sequence s) e
    where
      go : (t : Bool) (x : Answer Sequence) → pick t x (refused 34) ≡ accepted q → pick t (and_next x under) (refused 34) ≡ under q
      go false x e = let z : ◌≡◌ {A = ℕ} 0 1 = cc in absurd (omega arith)
      go true (refused k) e = let z : ◌≡◌ {A = ℕ} 0 1 = cc in absurd (omega arith)
      go true (accepted r) e = let i : r ≡ q = cc in ap under i

  -- the sequence header is refused: so is all
  pub from-refused : (k : ℕ) → limited s (parse_sequence s) ≡ refused k → limited s (and_next (parse_sequence s) under) ≡ refused k
  unfolding limited and_next
  from-refused k e = go (leb (length s) limit) (parse_sequence s) e
    where
      go : (t : Bool) (x : Answer Sequence) → pick t x (refused 34) ≡ refused k → pick t (and_next x under) (refused 34) ≡ refused k
      go false x e = let i : 34 ≡ k = cc in ap (λ y. refused y) i
      go true (refused j) e = let i : j ≡ k = cc in ap (λ y. refused y) i
      go true (accepted r) e = let z : ◌≡◌ {A = ℕ} 0 1 = cc in absurd (omega arith)

-- it has as many operating points as it says
abbrev pub Counted : Sequence → Type 0
Counted q = length q.points ≡ point_count q.header.opening

-- so has a header that was read
pub sequence-counted : (r : Rules) (s : List ℕ) (p : ℕ) → Holds Counted (sequence_header r s p)
unfolding sequence_header
sequence-counted r s p =
    then-any Counted (opening r s p) _ (λ o p.
    then-holds (λ xs. length xs ≡ point_count o) Counted (operating_points (point_count o) s p o) _ (points-count s o (point_count o) p) (λ xs p e.
    then-any Counted (coding r s p o.seq_profile (not o.reduced_still_picture_header)) _ (λ c p. e)))

-- beside its header in an array, its operating points are told from what stands behind them
pub array_whole : (q : Sequence) → Counted q → sequence_of q.header (padded q.points) ≡ q
unfolding padded
array_whole q e =
    ap (λ xs. record { header = q.header; points = xs })
    (ap (λ k. take k (padded q.points)) (sym e) ∙ take-append_seam q.points (replicate (32 - length q.points) no_point))

-- so they are for a header that was read
pub read_whole : (s : List ℕ) (q : Sequence) → parse_sequence s ≡ accepted q → sequence_of q.header (padded q.points) ≡ q
unfolding parse_sequence
read_whole s q e = array_whole q (answered Counted (read_sequence s) (sequence-counted ours s 0) e)

-- what the code answers for a sequence payload, and what is then answered under it
module _ (s : List ℕ) where
  -- a header: it and the array beside it are what was read
  pub beside-whole : (x : SequenceObu) → accepted x ≡ answer in_array (limited s (parse_sequence s)) → limited s (parse_sequence s) ≡ accepted (sequence_in x)
  beside-whole x = go (limited s (parse_sequence s)) refl
    where
      go : (y : Answer Sequence) → limited s (parse_sequence s) ≡ y → accepted x ≡ answer in_array y → limited s (parse_sequence s) ≡ accepted (sequence_in x)
      go (refused k) e p = let w : ◌≡◌ {A = ℕ} 0 1 = cc in absurd (omega arith)
      go (accepted q) e p =
          let i : x ≡ in_array q = cc in
          e ∙ ap (λ y. accepted y) (sym (read_whole s q (limited-read s (parse_sequence s) e)) ∙ ap sequence_in (sym i))

  module _ {A : Type 0} (under : Sequence → Answer A) where
    -- so the answer is that under it
    pub beside-read : (x : SequenceObu) → accepted x ≡ answer in_array (limited s (parse_sequence s)) → under (sequence_in x) ≡ limited s (and_next (parse_sequence s) under)
    beside-read x e = sym (from-read under s (sequence_in x) (beside-whole x e))

    -- a refusal: the same of all
    pub beside-refused : (k : ℕ) → refused k ≡ answer in_array (limited s (parse_sequence s)) → refused k ≡ limited s (and_next (parse_sequence s) under)
    beside-refused k e = sym (from-refused under s k (refused-same (limited s (parse_sequence s)) e))
      where
        refused-same : (y : Answer Sequence) → refused k ≡ answer in_array y → y ≡ refused k
        refused-same (refused j) e = let i : j ≡ k = cc in ap (λ y. refused y) i
        refused-same (accepted q) e = let w : ◌≡◌ {A = ℕ} 0 1 = cc in absurd (omega arith)

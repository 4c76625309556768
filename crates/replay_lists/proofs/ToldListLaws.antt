-- Laws of what assembly's answer is told as.
use Rattle.std.proofs.Common.{◌≡◌, sym, ap, ◌∙◌, List, [], ◌∷◌, ℕ, suc, ◌+◌, ◌-◌, ◌≤◌, ◌<◌, length, get_or, drop, add-one, arith, drop-cons}
use lib.ListN.{drop_of_length-le}
use denote.Triple.Both.{Both}
use Rattle.std.specs.Prelude.{Result}
use Rattle.pictures.specs.Assemble.{Outcome, Output, named}
use Rattle.pictures.specs.Says.{outcome_of}
use Rattle.pictures.specs.declared.fault.Fault.{Fault}
use Rattle.assemble.specs.Whole.{Lent, Handed}
use Rattle.assemble.specs.declared.multi.Counts.{Counts}
use Rattle.protocol.specs.Answers.{Numbered, with_numbers, Parted, with_parts}
use Rattle.protocol.specs.Kinds.{item_code}
use Rattle.protocol.specs.declared.kinds.Item.{Item}
use Rattle.protocol.proofs.AnswerLaws.{numbers_more, parts_more}
use Rattle.replay_lists.specs.Lists.{entry_units, kind_fields, handed_told, outcome_told}

-- ---- the units of entries

module _ (t : Parted) (ps es ss : List ℕ) (n i : ℕ) where
  pub unit_next : i < n
      → with_parts (with_parts t (named ps es ss i ∷ [])) (entry_units ps es ss (i + 1) (n - (i + 1))) ≡ with_parts t (entry_units ps es ss i (n - i))
  unfolding entry_units
  unit_next h =
      let z : n - i ≡ suc (n - (i + 1)) = omega arith in
      parts_more t (named ps es ss i ∷ []) (entry_units ps es ss (i + 1) (n - (i + 1)))
      ∙ ap (with_parts t) (sym (ap (entry_units ps es ss i) z ∙ ap (λ j. named ps es ss i ∷ entry_units ps es ss j (n - (i + 1))) (sym (add-one i))))

  pub unit_end : n ≤ i → t ≡ with_parts t (entry_units ps es ss i (n - i))
  unfolding entry_units with_parts
  unit_end h = let z : n - i ≡ 0 = omega arith in sym (ap (λ k. with_parts t (entry_units ps es ss i k)) z)

-- ---- numbers with their kinds

module _ (t : Numbered) (item others : Item) (l : List ℕ) (i : ℕ) where
  pub kind_next : i < length l
      → with_numbers (with_numbers t (item_code item ∷ get_or l i 0 ∷ [])) (kind_fields others others (drop (i + 1) l)) ≡ with_numbers t (kind_fields item others (drop i l))
  unfolding kind_fields
  kind_next h =
      numbers_more t (item_code item ∷ get_or l i 0 ∷ []) (kind_fields others others (drop (i + 1) l)) ∙ ap (with_numbers t) (rw (add-one i, drop-cons l i 0 h))

  pub kind_end : length l ≤ i → t ≡ with_numbers t (kind_fields item others (drop i l))
  unfolding kind_fields with_numbers
  kind_end h = rw (drop_of_length-le l {i = i} h)

-- ---- an outcome, from what the call left in the slices d

pub told_handed : {x : Lent → Outcome Output} {r : Result Counts Fault} {d : Both Lent Lent} (m e n : List ℕ) → Handed x r d
    → handed_told (outcome_of r) d.exit m e n ≡ outcome_told (x d.entry) d.entry m e n
unfolding outcome_told
told_handed m e n h = rw (h.answer, h.lent)

-- Laws of all segments prepared: what goes out is what is judged and sent one by one, and how much that is.
use Prim.Native.Nat.{ℕ, suc, ◌+◌, ◌*◌}
use native.Mathlib.Omega.{arith}
use mathlib.Core.Path.{◌≡◌, refl, sym, ap, ap₂, ◌∙◌}
use mathlib.Core.List.{List, [], ◌∷◌, ◌++◌, flat_map}
use mathlib.Core.Option.{Option}
use lib.ListN.{length, length-map}
use Rattle.bitio.specs.Parse.{Answer, refused, accepted, and_next}
use Rattle.header.specs.Sequence.{Sequence}
use Rattle.blocks.specs.Numbers.{segment_count, records}
use Rattle.blocks.proofs.NumberLaws.{records-length}
use Rattle.pictures.specs.Segments.{Segment, segment_in}
use Rattle.pictures.specs.Prepare.{Prepared, prepare, show_unit}
use Rattle.pictures.specs.Assemble.{Outcome, stopped, made, and_also, in_segment, prepare_all, picture_of, ends_from, shows_of}
use Rattle.pictures.specs.Flat.{all_segments, judged, rewriting, answer_or, sent_bytes, prepared_of, all_prepared, all_sent, slots_of}
use Rattle.pictures.proofs.JudgeLaws.{prepare-judged}

-- ---- all segments prepared

module _ (q : Sequence) (new : Option (List ℕ)) where
  one-prepared : (x : Segment) (b : Prepared) → prepare q new x ≡ accepted b → b ≡ prepared_of q new x
  unfolding and_next
  one-prepared x b e = go (judged q (rewriting new) x.key x.golden) (sym (prepare-judged q new x) ∙ e)
    where
      go : (a : Answer ℕ) → and_next a (λ n. accepted (record { key = sent_bytes new x.key; golden = sent_bytes new x.golden; slot = n })) ≡ accepted b
          → b ≡ record { key = sent_bytes new x.key; golden = sent_bytes new x.golden; slot = answer_or 0 a }
      go (refused k) e = let z : ◌≡◌ {A = ℕ} 0 1 = cc in absurd (omega arith)
      go (accepted n) e = cc

  more-prepared : (i : ℕ) (a : Answer Prepared) (o : Outcome (List Prepared)) (p : Prepared) (ps bs : List Prepared)
      → ((b : Prepared) → a ≡ accepted b → b ≡ p) → ((cs : List Prepared) → o ≡ made cs → cs ≡ ps)
      → and_also (in_segment i a) (λ b. and_also o (λ cs. made (b ∷ cs))) ≡ made bs → bs ≡ p ∷ ps
  unfolding and_also in_segment
  more-prepared i (refused k) o p ps bs f g e = let z : ◌≡◌ {A = ℕ} 0 1 = cc in absurd (omega arith)
  more-prepared i (accepted b) (stopped k j) p ps bs f g e = let z : ◌≡◌ {A = ℕ} 0 1 = cc in absurd (omega arith)
  more-prepared i (accepted b) (made cs) p ps bs f g e =
      let w : b ∷ cs ≡ bs = cc in
      sym w ∙ ap₂ (λ (x : Prepared) (l : List Prepared). x ∷ l) (f b refl) (g cs refl)

  -- segments that are prepared are what is judged and sent
  pub all-prepared : (i : ℕ) (xs : List Segment) (bs : List Prepared) → prepare_all q new i xs ≡ made bs → bs ≡ all_prepared q new xs
  unfolding prepare_all
  all-prepared i [] bs e = let w : [] ≡ bs = cc in sym w
  all-prepared i (x ∷ xs) bs e =
      more-prepared i (prepare q new x) (prepare_all q new (suc i) xs) (prepared_of q new x) (all_prepared q new xs) bs
      (one-prepared x) (all-prepared (suc i) xs) e

  -- ---- their parts: what is sent, and the slots

  pub picture-sent : (xs : List Segment) → picture_of (all_prepared q new xs) ≡ picture_of (all_sent new xs)
  unfolding flat_map
  picture-sent [] = refl
  picture-sent (x ∷ xs) = ap (λ (l : List ℕ). (sent_bytes new x.key ++ sent_bytes new x.golden) ++ l) (picture-sent xs)

  pub ends-sent : (at : ℕ) (xs : List Segment) → ends_from at (all_prepared q new xs) ≡ ends_from at (all_sent new xs)
  unfolding ends_from
  ends-sent at [] = refl
  ends-sent at (x ∷ xs) =
      let k = length (sent_bytes new x.key) in
      let g = length (sent_bytes new x.golden) in
      ap (λ (l : List ℕ). (at + k) ∷ (at + k + g) ∷ l) (ends-sent (at + k + g) xs)

  pub shows-slots : (xs : List Segment) → shows_of (all_prepared q new xs) ≡ flat_map show_unit (slots_of q (rewriting new) xs)
  unfolding flat_map
  shows-slots [] = refl
  shows-slots (x ∷ xs) = ap (λ (l : List ℕ). show_unit (answer_or 0 (judged q (rewriting new) x.key x.golden)) ++ l) (shows-slots xs)

  pub length-prepared : (xs : List Segment) → length (all_prepared q new xs) ≡ length xs
  length-prepared xs = length-map xs (prepared_of q new)

-- ---- lengths

pub length-ends : (at : ℕ) (bs : List Prepared) → length (ends_from at bs) ≡ 2 * length bs
unfolding ends_from
length-ends at [] = refl
length-ends at (b ∷ bs) = let ih = length-ends (at + length b.key + length b.golden) bs in omega arith

pub length-shows : (bs : List Prepared) → length (shows_of bs) ≡ 5 * length bs
unfolding flat_map
length-shows [] = refl
length-shows (b ∷ bs) = let ih = length-shows bs in omega arith

pub length-all : (s rs : List ℕ) → length (all_segments s rs) ≡ segment_count rs
length-all s rs = length-map (records rs) (segment_in s) ∙ records-length (segment_count rs) rs

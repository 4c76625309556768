-- Laws of the picture bytes measured one segment after the other.
use Prim.Native.Nat.{ℕ, suc, ◌+◌, ◌-◌, ◌^◌, ◌≤◌, ◌<◌}
use native.Mathlib.Omega.{arith}
use native.Mathlib.Numerals.{add-one}
use mathlib.Core.Path.{◌≡◌, refl, sym, ap, ◌∙◌}
use mathlib.Core.List.{List, [], ◌∷◌, ◌++◌, flat_map}
use mathlib.Core.Option.{Option}
use lib.ListN.{length, length-append}
use Rattle.bitio.specs.Parse.{Answer, refused, accepted, answer, and_next}
use Rattle.bitio.specs.Limits.{capped}
use Rattle.header.specs.Sequence.{Sequence}
use Rattle.blocks.specs.Numbers.{segment_count, key_at, golden_at, frames_at}
use Rattle.pictures.specs.Segments.{Segment}
use Rattle.pictures.specs.Prepare.{Prepared}
use Rattle.pictures.specs.Assemble.{Outcome, stopped, made, and_also, in_segment, prepare_all, picture_of}
use Rattle.pictures.specs.Flat.{all_segments, judged, rewriting, sent_bytes, measured, measured_units}
use Rattle.pictures.proofs.JudgeLaws.{prepare-judged}
use Rattle.pictures.proofs.SegmentLaws.{segments_behind, segments-start, segments-end, segments-next}

also-same : {A B : Type 0} (o : Outcome A) (f g : A → Outcome B) → ((a : A) → f a ≡ g a) → and_also o f ≡ and_also o g
unfolding and_also
also-same (stopped k j) f g e = refl
also-same (made a) f g e = e a

module _ (q : Sequence) (new : Option (List ℕ)) where
  -- `sum` bytes, and those of the segments xs, the first being segment i
  abbrev pub counted_from : ℕ → List Segment → ℕ → Outcome ℕ
  counted_from i xs sum = and_also (prepare_all q new i xs) (λ bs. made (capped (sum + length (picture_of bs))))

  abbrev size_of : Segment → ℕ
  size_of x = length (sent_bytes new x.key) + length (sent_bytes new x.golden)

  counted_none : (i sum : ℕ) → counted_from i [] sum ≡ made (capped (sum + 0))
  unfolding prepare_all and_also flat_map
  counted_none i sum = refl

  segment-counted : (k g : List ℕ) (sum i : ℕ) (a : Answer ℕ) (o : Outcome (List Prepared))
      → and_also (and_also (in_segment i (and_next a (λ n. accepted (record { key = k; golden = g; slot = n })))) (λ b. and_also o (λ bs. made (b ∷ bs)))) (λ bs. made (capped (sum + length (picture_of bs))))
      ≡ and_also (in_segment i a) (λ _. and_also o (λ bs. made (capped (sum + (length k + length g) + length (picture_of bs)))))
  unfolding and_also in_segment and_next flat_map
  segment-counted k g sum i (refused n) o = refl
  segment-counted k g sum i (accepted n) (stopped m j) = refl
  segment-counted k g sum i (accepted n) (made bs) =
      let e : sum + length ((k ++ g) ++ picture_of bs) ≡ sum + (length k + length g) + length (picture_of bs) =
      omega (arith, length-append (k ++ g) (picture_of bs), length-append k g) in
      ap (λ (m : ℕ). made (capped m)) e

  -- one segment, if it is judged, and those behind it
  counted-more : (i : ℕ) (x : Segment) (xs : List Segment) (sum : ℕ)
      → counted_from i (x ∷ xs) sum ≡ and_also (in_segment i (judged q (rewriting new) x.key x.golden)) (λ _. counted_from (suc i) xs (sum + size_of x))
  unfolding prepare_all
  counted-more i x xs sum =
      let k = sent_bytes new x.key in
      let g = sent_bytes new x.golden in
      ap (λ a. and_also (and_also (in_segment i a) (λ b. and_also (prepare_all q new (suc i) xs) (λ bs. made (b ∷ bs)))) (λ bs. made (capped (sum + length (picture_of bs))))) (prepare-judged q new x)
      ∙ segment-counted k g sum i (judged q (rewriting new) x.key x.golden) (prepare_all q new (suc i) xs)

-- a segment that is refused, and one that is counted
stays : (i : ℕ) (f : ℕ → ℕ) (a : Answer ℕ) (o : Outcome ℕ) (k : ℕ) (j : Option ℕ) → stopped k j ≡ in_segment i (answer f a) → stopped k j ≡ and_also (in_segment i a) (λ _. o)
unfolding and_also in_segment
stays i f (refused n) o k j e = e
stays i f (accepted n) o k j e = let z : ◌≡◌ {A = ℕ} 0 1 = cc in absurd (omega arith)

goes : (i units_size : ℕ) (a : Answer ℕ) (o : Outcome ℕ) (n : ℕ) → made n ≡ in_segment i (answer (λ _. units_size) a) → (n ≡ units_size) × (and_also (in_segment i a) (λ _. o) ≡ o)
unfolding and_also in_segment
goes i units_size (refused k) o n e = let z : ◌≡◌ {A = ℕ} 0 1 = cc in absurd (omega arith)
goes i units_size (accepted k) o n e = (cc, refl)

-- `sum` is the saturated sum of i segments
pub record Measuring (q : Sequence) (new : Option (List ℕ)) (s rs : List ℕ) (i sum : ℕ) : Type 0 where
  pub within : i ≤ segment_count rs
  pub small : sum ≤ 2 ^ 64 - 1
  pub whole : measured q new (all_segments s rs) ≡ counted_from q new i (segments_behind s rs i) sum

pub measure-start : (q : Sequence) (new : Option (List ℕ)) (s rs : List ℕ) → Measuring q new s rs 0 0
measure-start q new s rs =
    let e : (bs : List Prepared) → made (capped (length (picture_of bs))) ≡ made (capped (0 + length (picture_of bs))) = λ bs. ap (λ (m : ℕ). made (capped m)) (omega arith) in
    record {
      within = omega arith;
      small = omega arith;
      whole =
          also-same (prepare_all q new 0 (all_segments s rs)) _ _ e
          ∙ ap (λ (xs : List Segment). counted_from q new 0 xs 0) (sym (segments-start s rs));
    }

module _ {q : Sequence} {new : Option (List ℕ)} {s rs : List ℕ} {i sum : ℕ} (r : Measuring q new s rs i sum) where
  pub measure-end : segment_count rs ≤ i → made sum ≡ measured q new (all_segments s rs)
  measure-end h =
      let e : capped (sum + 0) ≡ sum = omega (arith, r.small) in
      sym (r.whole ∙ ap (λ (xs : List Segment). counted_from q new i xs sum) (segments-end s rs i h) ∙ counted_none q new i sum ∙ ap made e)

  module _ (h : i < segment_count rs) (key golden : List ℕ) (is_key : key ≡ key_at s rs i) (is-golden : golden ≡ golden_at s rs i) where
    abbrev units_size : ℕ
    units_size = length (sent_bytes new key) + length (sent_bytes new golden)

    measure-here : measured q new (all_segments s rs) ≡ and_also (in_segment i (judged q (rewriting new) key golden)) (λ _. counted_from q new (suc i) (segments_behind s rs (i + 1)) (sum + units_size))
    measure-here =
        r.whole ∙ ap (λ (xs : List Segment). counted_from q new i xs sum) (segments-next s rs i h key golden is_key is-golden)
        ∙ counted-more q new i (record { key = key; golden = golden; frames = frames_at rs i }) (segments_behind s rs (i + 1)) sum

    pub measure-stop : (k : ℕ) (j : Option ℕ) → stopped k j ≡ in_segment i (measured_units q new key golden) → stopped k j ≡ measured q new (all_segments s rs)
    measure-stop k j w = stays i (λ _. capped units_size) (judged q (rewriting new) key golden) _ k j w ∙ sym measure-here

    pub measure-turn : (n sum' : ℕ) → made n ≡ in_segment i (measured_units q new key golden) → sum' ≡ capped (sum + n) → Measuring q new s rs (i + 1) sum'
    measure-turn n sum' w e =
        let t = goes i (capped units_size) (judged q (rewriting new) key golden) (counted_from q new (suc i) (segments_behind s rs (i + 1)) (sum + units_size)) n w in
        let c : (bs : List Prepared) → made (capped (sum + units_size + length (picture_of bs))) ≡ made (capped (sum' + length (picture_of bs))) = λ bs. ap made (omega (arith, t.0, e, r.small)) in
        record {
          within = omega arith;
          small = omega arith;
          whole =
              measure-here ∙ t.1 ∙ also-same (prepare_all q new (suc i) (segments_behind s rs (i + 1))) _ _ c
              ∙ ap (λ (j : ℕ). counted_from q new j (segments_behind s rs (i + 1)) sum') (sym (add-one i));
        }

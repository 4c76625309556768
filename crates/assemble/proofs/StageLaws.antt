-- Laws of assembly's stages: together they are the whole, and what they tell of the sizes.
use Prim.Native.Nat.{ℕ, zero, suc, ◌+◌, ◌-◌, ◌≤◌}
use native.Mathlib.Omega.{arith}
use mathlib.Core.Path.{◌≡◌, refl, sym, ap, subst, ◌∙◌}
use mathlib.Core.List.{List, [], ◌∷◌, map}
use mathlib.Core.Bool.{Bool, true, false, cond as pick}
use mathlib.Core.Option.{none, some}
use lib.ListN.{length}
use lib.Dec.{ltb, eqb}
use borrow.Author.Tests.{ltb-false, eqb-false}
use Rattle.header.specs.Support.{supported_sequence}
use Rattle.blocks.proofs.NumberLaws.{frames-length}
use Rattle.bitio.specs.Parse.{Answer, refused, accepted, and_next, onto}
use Rattle.bitio.specs.Limits.{limit, capped}
use Rattle.obu.specs.Obu.{obus}
use Rattle.blocks.specs.Blocks.{total}
use Rattle.blocks.specs.Numbers.{head_key, head_frames, head_inside, rest, segment_count, is_whole, records_from, frames_in}
use Rattle.pictures.specs.Segments.{Segment, frames_of, segment_in, segment_at, segments_from, segments_of}
use Rattle.pictures.specs.Prepare.{effective, renewal}
use Rattle.pictures.specs.declared.settings.Settings.{Settings}
use Rattle.pictures.specs.Assemble.{Outcome, stopped, made, and_also, verdict, in_segment, overall, none_empty, sizes, same_headers, header_obu, prepare_all, picture_of, Output, output_of, OutputRoom, assembled, fitted, assemble}
use Rattle.pictures.specs.Sizes.{sized_all, ranged}
use Rattle.pictures.specs.Flat.{all_segments, later_segments, first_sequence}
use Rattle.assemble.specs.code.Stages.{Going, going, from_timing, from_header, from_key, checked, planned}

-- ---- accepted segments are those of the flat numbers

onto-are : (x : Segment) (a : Answer (List Segment)) (zs : List Segment) → ((ys : List Segment) → a ≡ accepted ys → ys ≡ zs)
    → (xs : List Segment) → onto x a ≡ accepted xs → xs ≡ x ∷ zs
onto-are x (refused k) zs h xs e = let z : ◌≡◌ {A = ℕ} 0 1 = cc in absurd (omega arith)
onto-are x (accepted ys) zs h xs e = let w : x ∷ ys ≡ xs = cc in sym w ∙ ap (λ (l : List Segment). x ∷ l) (h ys refl)

segments-from : (s : List ℕ) (k : ℕ) (rs : List ℕ) (xs : List Segment) → segments_from s k rs ≡ accepted xs → xs ≡ map (segment_in s) (records_from k rs)
unfolding segments_from segment_at and_next records_from
segments-from s zero rs xs e = let w : [] ≡ xs = cc in sym w
segments-from s (suc k) rs xs e =
    go (λ ys w. segments-from s k (rest rs) ys w) (head_inside s rs) e
  where
    go : ((ys : List Segment) → segments_from s k (rest rs) ≡ accepted ys → ys ≡ map (segment_in s) (records_from k (rest rs))) → (t : Bool)
        → and_next (pick t (accepted (segment_in s rs)) (refused 36)) (λ y. onto y (segments_from s k (rest rs))) ≡ accepted xs → xs ≡ segment_in s rs ∷ map (segment_in s) (records_from k (rest rs))
    go more true e = onto-are (segment_in s rs) (segments_from s k (rest rs)) (map (segment_in s) (records_from k (rest rs))) more xs e
    go more false e = let z : ◌≡◌ {A = ℕ} 0 1 = cc in absurd (omega arith)

pub segments-are : (s rs : List ℕ) (xs : List Segment) → segments_of s rs ≡ accepted xs → xs ≡ all_segments s rs
unfolding segments_of
segments-are s rs xs e = go (is_whole rs) e
  where
    go : (t : Bool) → pick t (segments_from s (segment_count rs) rs) (refused 36) ≡ accepted xs → xs ≡ all_segments s rs
    go true e = segments-from s (segment_count rs) rs xs e
    go false e = let z : ◌≡◌ {A = ℕ} 0 1 = cc in absurd (omega arith)

frames-in : (s : List ℕ) (l : List (List ℕ)) → map head_frames l ≡ frames_of (map (segment_in s) l)
frames-in s [] = refl
frames-in s (rs ∷ l) = ap (λ (ns : List ℕ). head_frames rs ∷ ns) (frames-in s l)

-- ---- outcomes one after the other

-- a chain and another that agree behind a common first link
also-both : {A B C D : Type 0} (x : Outcome A) (f : A → Outcome B) (g : A → Outcome C) (h : B → Outcome D) (k : C → Outcome D)
    → ((a : A) → and_also (f a) h ≡ and_also (g a) k) → and_also (and_also x f) h ≡ and_also (and_also x g) k
unfolding and_also
also-both (stopped n i) f g h k e = refl
also-both (made a) f g h k e = e a

-- the same, where one of them has two links in one segment for one
first-both : {A B C D E : Type 0} (i : ℕ) (x : Answer A) (p : A → Answer B) (f : B → Outcome C) (g : B → Outcome D) (h : C → Outcome E) (k : D → Outcome E)
    → ((b : B) → and_also (f b) h ≡ and_also (g b) k)
    → and_also (and_also (in_segment i x) (λ a. and_also (in_segment i (p a)) f)) h ≡ and_also (and_also (in_segment i (and_next x p)) g) k
unfolding and_also in_segment and_next
first-both i (refused n) p f g h k e = refl
first-both {A} {B} {C} {D} {E} i (accepted a) p f g h k e = go (p a)
  where
    go : (y : Answer B) → and_also (and_also (in_segment i y) f) h ≡ and_also (and_also (in_segment i y) g) k
    go (refused n) = refl
    go (accepted b) = e b

-- ---- the stages are the whole

abbrev fine : Outcome Unit
fine = made tt

module _ (room : OutputRoom) (set : Settings) where
  -- what is handed out of what goes out, if it fits
  abbrev pub fitted_out : List ℕ → Going → Outcome Output
  fitted_out ns g = fitted room (output_of set.gop ns g.header g.units)

  staged : (x : Segment) (xs all later : List Segment) (ns : List ℕ) → all ≡ x ∷ xs → later ≡ xs → ns ≡ frames_of (x ∷ xs)
      → and_also (assembled set (x ∷ xs)) (fitted room)
      ≡ and_also (and_also (sized_all set.gop ns) (λ _.
      and_also (in_segment 0 (first_sequence x.key)) (λ o.
      and_also (in_segment 0 (supported_sequence o.payload)) (λ q.
      and_also (same_headers o.payload 1 later) (λ _.
      and_also (prepare_all (effective set q) (renewal set q) 0 all) (λ bs. made (going (header_obu (renewal set q) o) bs))))))) (fitted_out ns)
  unfolding assembled and_also
  staged x xs all later ns a l n =
      rw (a, l, n) (also-both (sizes set.gop (frames_of (x ∷ xs))) _ _ _ _ (λ _.
      first-both 0 (obus x.key) _ _ _ _ _ (λ o.
      also-both (in_segment 0 (supported_sequence o.payload)) _ _ _ _ (λ q.
      also-both (same_headers o.payload 1 xs) _ _ _ _ (λ _.
      also-both (prepare_all (effective set q) (renewal set q) 0 (x ∷ xs)) _ _ _ _ (λ bs. refl))))))

  module _ (s rs : List ℕ) where
    staged_count : (n : ℕ) → segment_count rs ≡ n
        → and_also (assembled set (map (segment_in s) (records_from n rs))) (fitted room) ≡ and_also (and_also (sized_all set.gop (frames_in rs)) (λ _. from_key s rs set)) (fitted_out (frames_in rs))
    unfolding assembled and_also records_from from_key from_header from_timing
    staged_count zero e = let f : frames_in rs ≡ [] = ap (λ (k : ℕ). map head_frames (records_from k rs)) e in rw f
    staged_count (suc m) e =
        staged (segment_in s rs) (map (segment_in s) (records_from m (rest rs))) (all_segments s rs) (later_segments s rs) (frames_in rs)
        (ap (λ (k : ℕ). map (segment_in s) (records_from k rs)) e) (ap (λ (k : ℕ). map (segment_in s) (records_from k (rest rs))) less) (ap (λ (k : ℕ). map head_frames (records_from k rs)) e ∙ frames-in s (records_from (suc m) rs))
      where
        less : segment_count rs - 1 ≡ m
        less = omega (arith, e)

    -- the whole is what goes out, handed out if it fits
    pub assemble-staged : assemble room set s rs ≡ and_also (planned s rs set) (fitted_out (frames_in rs))
    unfolding assemble planned checked and_also overall
    assemble-staged = go (ltb limit (length s)) (segments_of s rs) refl
      where
        go : (t : Bool) (a : Answer (List Segment)) → segments_of s rs ≡ a
            → pick t (stopped 34 none) (and_also (overall a) (λ xs. and_also (assembled set xs) (fitted room)))
            ≡ and_also (and_also (pick t (stopped 34 none) (and_also (overall (verdict a)) (λ _. sized_all set.gop (frames_in rs)))) (λ _. from_key s rs set)) (fitted_out (frames_in rs))
        go true a e = refl
        go false (refused k) e = refl
        go false (accepted xs) e = ap (λ (l : List Segment). and_also (assembled set l) (fitted room)) (segments-are s rs xs e) ∙ staged_count (segment_count rs) refl

-- ---- what the checks tell

filled : (i : ℕ) (ns : List ℕ) → none_empty i ns ≡ fine → length ns ≤ total ns
unfolding none_empty total
filled i [] e = omega arith
filled i (n ∷ ns) e = go (filled (suc i) ns) (eqb n 0) refl e
  where
    go : (none_empty (suc i) ns ≡ fine → length ns ≤ total ns) → (t : Bool) → eqb n 0 ≡ t → pick t (stopped 24 (some i)) (none_empty (suc i) ns) ≡ fine → suc (length ns) ≤ n + total ns
    go more true b e = let z : ◌≡◌ {A = ℕ} 0 1 = cc in absurd (omega arith)
    go more false b e = let h = more e in let w : n ≡ 0 → ⊥ = eqb-false n 0 b in positive n w h
      where
        positive : (n : ℕ) → (n ≡ 0 → ⊥) → length ns ≤ total ns → suc (length ns) ≤ n + total ns
        positive zero w h = absurd (w refl)
        positive (suc n) w h = omega arith

-- the frames ordered are in 01's bounds
pub record Sound (gop : ℕ) (rs : List ℕ) : Type 0 where
  pub gop-size : 2 ≤ gop
  pub small : total (frames_in rs) ≤ 5000000
  pub some-there : 1 ≤ segment_count rs
  pub count : segment_count rs ≤ 5000000

sized-sound : (gop : ℕ) (rs ns : List ℕ) → frames_in rs ≡ ns → sized_all gop ns ≡ fine → Sound gop rs
unfolding sizes and_also
sized-sound gop rs [] f e = let z : ◌≡◌ {A = ℕ} 0 1 = cc in absurd (omega arith)
sized-sound gop rs (n ∷ ns) f e = go (ltb gop 2) (ltb (total (n ∷ ns)) 2) (none_empty 0 (n ∷ ns)) (ltb 5000000 (total (n ∷ ns))) refl refl refl e
  where
    go : (a b : Bool) (x : Outcome Unit) (d : Bool) → ltb gop 2 ≡ a → none_empty 0 (n ∷ ns) ≡ x → ltb 5000000 (total (n ∷ ns)) ≡ d
        → pick a (stopped 22 none) (pick b (stopped 23 none) (and_also x (λ _. pick d (stopped 25 none) fine))) ≡ fine → Sound gop rs
    go true b x d i j k e = let z : ◌≡◌ {A = ℕ} 0 1 = cc in absurd (omega arith)
    go false true x d i j k e = let z : ◌≡◌ {A = ℕ} 0 1 = cc in absurd (omega arith)
    go false false (stopped m l) d i j k e = let z : ◌≡◌ {A = ℕ} 0 1 = cc in absurd (omega arith)
    go false false (made tt) true i j k e = let z : ◌≡◌ {A = ℕ} 0 1 = cc in absurd (omega arith)
    go false false (made tt) false i j k e =
        let g = ltb-false gop 2 i in
        let t = ltb-false 5000000 (total (n ∷ ns)) k in
        let l = filled 0 (n ∷ ns) j in
        let w = ap total f in
        let m = sym (frames-length rs) ∙ ap length f in
        record { gop-size = g; small = omega arith; some-there = omega arith; count = omega arith }

pub checked-sound : (s rs : List ℕ) (gop : ℕ) → checked s rs gop ≡ fine → Sound gop rs
unfolding checked and_also
checked-sound s rs gop e = go (ltb limit (length s)) (ranged s rs) e
  where
    go : (t : Bool) (x : Outcome Unit) → pick t (stopped 34 none) (and_also x (λ _. sized_all gop (frames_in rs))) ≡ fine → Sound gop rs
    go true x e = let z : ◌≡◌ {A = ℕ} 0 1 = cc in absurd (omega arith)
    go false (stopped m l) e = let z : ◌≡◌ {A = ℕ} 0 1 = cc in absurd (omega arith)
    go false (made tt) e = sized-sound gop rs (frames_in rs) refl e

pub planned-sound : (s rs : List ℕ) (set : Settings) (g : Going) → planned s rs set ≡ made g → Sound set.gop rs
unfolding planned and_also
planned-sound s rs set g e = go (checked s rs set.gop) refl e
  where
    go : (x : Outcome Unit) → checked s rs set.gop ≡ x → and_also x (λ _. from_key s rs set) ≡ made g → Sound set.gop rs
    go (stopped m l) i e = let z : ◌≡◌ {A = ℕ} 0 1 = cc in absurd (omega arith)
    go (made tt) i e = checked-sound s rs set.gop i

-- ---- picture bytes that go out are counted

abbrev Weighed : Going → Type 0
Weighed g = g.bytes ≡ capped (length (picture_of g.units))

also-weighed : {A : Type 0} (x : Outcome A) (f : A → Outcome Going) → ((a : A) (g : Going) → f a ≡ made g → Weighed g) → (g : Going) → and_also x f ≡ made g → Weighed g
unfolding and_also
also-weighed (stopped n i) f h g e = let z : ◌≡◌ {A = ℕ} 0 1 = cc in absurd (omega arith)
also-weighed (made a) f h g e = h a g e

pub planned-weighed : (s rs : List ℕ) (set : Settings) (g : Going) → planned s rs set ≡ made g → g.bytes ≡ capped (length (picture_of g.units))
unfolding planned from_key from_header from_timing
planned-weighed s rs set =
    also-weighed (checked s rs set.gop) _ (λ _.
    also-weighed (in_segment 0 (first_sequence (head_key s rs))) _ (λ o.
    also-weighed (in_segment 0 (supported_sequence o.payload)) _ (λ q.
    also-weighed (same_headers o.payload 1 (later_segments s rs)) _ (λ _.
    also-weighed (prepare_all (effective set q) (renewal set q) 0 (all_segments s rs)) _ (λ bs g e.
    let w : going (header_obu (renewal set q) o) bs ≡ g = cc in subst (λ (x : Going). x.bytes ≡ capped (length (picture_of x.units))) w refl)))))

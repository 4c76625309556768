-- Laws of the writing pass of Annex B: what each of its loops has written.
use Prim.Native.Nat.{ℕ, ◌+◌, ◌≤◌, ◌<◌}
use native.Mathlib.Omega.{arith}
use mathlib.Core.Path.{◌≡◌, refl, sym, ap, ◌∙◌}
use mathlib.Core.List.{List, [], ◌∷◌, ◌++◌, map, flat_map, append_assoc, append-nil, map-append}
use lib.ListN.{length, set, length-append, length-map, length-set}
use Rattle.bitio.specs.Parse.{Answer, refused, accepted, answer, Head, stop, item, before, many, accepted_list}
use Rattle.bitio.specs.Lent.{pasted}
use Rattle.bitio.specs.Leb.{sized}
use Rattle.bitio.proofs.LentLaws.{pasted-one, wrote_none, wrote-length, wrote-more}
use Rattle.bitio.proofs.ParseLaws.{Shrinks}
use Rattle.obu.specs.Obu.{Obu, obu_bytes, unit_bytes}
use Rattle.obu.specs.Write.{obu_length}
use Rattle.obu.proofs.LengthLaws.{obu-length}
use Rattle.container.specs.Stream.{flat, stream_bytes}
use Rattle.container.specs.AnnexB.{inner_obu, length_obu, frame_unit_of, frame_unit, temporal_unit_of, temporal_unit}
use Rattle.bitio.specs.Limits.{limit}
use Rattle.container.specs.Units.{ends_of}
use Rattle.annexb.specs.code.Fill.{ObusRoom, UnitsRoom, Filled}
use Rattle.bitio.specs.Lent.{Wrote}
use Rattle.container.proofs.StreamLaws.{bytes-flat}
use Rattle.container.proofs.AnnexBLaws.{temporal-shrinks}
use Rattle.container.proofs.ListLaws.{ends-length, ends_more}
use Rattle.annexb.proofs.PassedLaws.{Passed, passed_start, passed-next, passed-end, passed-no-stop, passed-part}
use Rattle.annexb.proofs.PartLaws.{part-less, other-part, no-other, length-stop, length_part}

-- ---- one thing after another

pub flat_map-append : {A : Type 0} (f : A → List ℕ) (a b : List A) → flat_map f (a ++ b) ≡ flat_map f a ++ flat_map f b
unfolding flat_map
flat_map-append f [] b = refl
flat_map-append f (x ∷ a) b = ap (λ l. f x ++ l) (flat_map-append f a b) ∙ sym (append_assoc (f x) (flat_map f a) (flat_map f b))

flat_map-more : {A : Type 0} (f : A → List ℕ) (a : List A) (x : A) → flat_map f (a ++ (x ∷ [])) ≡ flat_map f a ++ f x
unfolding flat_map
flat_map-more f a x = flat_map-append f a (x ∷ []) ∙ ap (λ l. flat_map f a ++ l) (append-nil (f x))

-- the things of s before r are read and written
pub record Walk {A : Type 0} (h : List ℕ → Head A) (put : A → List ℕ) (s r d : List ℕ) (w₀ : ℕ) (d' : List ℕ) (w : ℕ) : Type 0 where
  pub done : List A
  pub passed : Passed h s r done
  pub laid : Wrote d w₀ (flat_map put done) w d'
  pub kept : length d' ≡ length d

-- all things of s are read, and have room
pub record Whole {A : Type 0} (h : List ℕ → Head A) (put : A → List ℕ) (s d : List ℕ) (w₀ : ℕ) : Type 0 where
  pub all : List A
  pub reads : many h s ≡ accepted all
  pub room : w₀ + length (flat_map put all) ≤ length d

module _ {A : Type 0} (h : List ℕ → Head A) (put : A → List ℕ) (shrinks : Shrinks h) (s d : List ℕ) (w₀ : ℕ) where
  pub walk_start : Walk h put s s d w₀ d w₀
  unfolding flat_map
  walk_start = record { done = []; passed = passed_start h shrinks s; laid = wrote_none d w₀; kept = refl }

  module _ (x : Whole h put s d w₀) {r d' : List ℕ} {w : ℕ} (k : Walk h put s r d w₀ d' w) where
    -- what is read next is within all, and has room
    pub walk-within : {y : A} {t : List ℕ} → h r ≡ item y t → (w + length (put y) ≤ w₀ + length (flat_map put x.all)) × (length k.done < length x.all)
    unfolding flat_map
    walk-within {y} i =
        let q = passed-part h shrinks s k.passed x.all x.reads i in
        let n = ap (λ l. length (flat_map put l)) q.1 ∙ ap length (flat_map-append put k.done (y ∷ q.0)) ∙ length-append (flat_map put k.done) (flat_map put (y ∷ q.0)) in
        (omega (arith, n, length-append (put y) (flat_map put q.0), k.laid.next), omega (arith, ap length q.1 ∙ length-append k.done (y ∷ q.0)))

    pub walk-room : {y : A} {t : List ℕ} → h r ≡ item y t → w + length (put y) ≤ length d'
    walk-room i = omega (arith, (walk-within i).0, k.kept, x.room)

    pub walk-next : {y : A} {t : List ℕ} → h r ≡ item y t → {d'' : List ℕ} {w'' : ℕ} → Wrote d' w (put y) w'' d'' → Walk h put s t d w₀ d'' w''
    walk-next {y} i {d''} {w''} m =
        record {
          done = k.done ++ (y ∷ []);
          passed = passed-next h shrinks s k.passed i;
          laid = rw (flat_map-more put k.done y) (wrote-more k.laid (omega (arith, x.room)) m);
          kept = wrote-length m (walk-room i) ∙ k.kept;
        }

    -- what stands next is read further, and is not refused
    pub walk-stop : 0 < length r → (j : ℕ) → h r ≡ stop j → ⊥
    walk-stop l j q = passed-no-stop h shrinks s k.passed l x.all x.reads j q

    pub walk-held : (y : Answer A) (t : List ℕ) → 0 < length r → h r ≡ before t y → (z : A) × (y ≡ accepted z) × (h r ≡ item z t)
    walk-held (refused j) t l q = absurd (walk-stop l j q)
    walk-held (accepted z) t l q = (z, refl, q)

    pub walk_all : length r ≡ 0 → Wrote d w₀ (flat_map put x.all) w d'
    walk_all l =
        let z = passed-end h shrinks s k.passed l in
        let y = x.reads in
        let f : k.done ≡ x.all = cc in
        rw (← f) k.laid

    -- nothing is left where nothing is read
    pub walk-none : (j : ℕ) → h r ≡ stop j → length r ≡ 0
    walk-none j q = none r refl
      where
        none : (t : List ℕ) → r ≡ t → length r ≡ 0
        none [] e = ap length e
        none (b ∷ t) e = absurd (walk-stop (omega (arith, ap length e)) j q)

    pub walk_end : (j : ℕ) → h r ≡ stop j → Wrote d w₀ (flat_map put x.all) w d'
    walk_end j q = walk_all (walk-none j q)

-- ---- OBUs, frame units and units, as the walk over parts gives them

module _ (s : List ℕ) {p r : List ℕ} (q : sized 6 7 s ≡ item p r) where
  pub given-some : 0 < length s
  given-some = omega (arith, part-less 6 7 s q)

  pub obu-given : {x : Answer Obu} → inner_obu p ≡ x → length_obu s ≡ before r x
  obu-given e = length_part s (other-part 6 7 10 11 s q) ∙ ap (before r) e

  pub frame-given : frame_unit s ≡ before r (many length_obu p)
  unfolding frame_unit_of
  frame-given = rw (other-part 6 7 8 9 s q)

  pub unit-given : temporal_unit s ≡ before r (answer flat (many frame_unit p))
  unfolding temporal_unit_of
  unit-given = rw q

module _ (s : List ℕ) {k : ℕ} (q : sized 6 7 s ≡ stop k) where
  pub obu-none : (j : ℕ) × (length_obu s ≡ stop j)
  obu-none = let n = no-other 6 7 10 11 s q in (n.0, sym (length-stop s n.1))

  pub frame-none : (j : ℕ) × (frame_unit s ≡ stop j)
  unfolding frame_unit_of
  frame-none = let n = no-other 6 7 8 9 s q in (n.0, rw n.1)

  pub unit-none : temporal_unit s ≡ stop k
  unfolding temporal_unit_of
  unit-none = rw q

-- an OBU that is written
module _ (o : Obu) (d : List ℕ) (w : ℕ) where
  pub obu-room : w + length (obu_bytes o) ≤ length d → w + obu_length o.ext (length o.payload) ≤ length d
  obu-room l = omega (arith, l, obu-length o)

  pub obu-put : {n : ℕ} {d' : List ℕ} → (n ≡ w + obu_length o.ext (length o.payload)) × (d' ≡ pasted d w (obu_bytes o)) → Wrote d w (obu_bytes o) n d'
  obu-put (l, e) = record { next = omega (arith, l, obu-length o); out = e }

-- OBUs of units, one behind the other
pub flat-units : (us : List (List Obu)) → flat_map unit_bytes us ≡ stream_bytes (map unit_bytes us)
unfolding flat_map stream_bytes flat
flat-units [] = refl
flat-units (u ∷ us) = ap (λ l. unit_bytes u ++ l) (flat-units us)

-- OBUs that are held are those that are read
pub held-is : {d : List ℕ} {w : ℕ} {x : Answer (List Obu)} {os : List Obu} {d' : List ℕ} {w' : ℕ} → x ≡ accepted os → Wrote d w (unit_bytes (accepted_list x)) w' d' → Wrote d w (unit_bytes os) w' d'
held-is q l = rw q at l

is_held : {d : List ℕ} {w : ℕ} {x : Answer (List Obu)} {os : List Obu} {d' : List ℕ} {w' : ℕ} → x ≡ accepted os → Wrote d w (unit_bytes os) w' d' → Wrote d w (unit_bytes (accepted_list x)) w' d'
is_held q l = rw q l

module _ (s d : List ℕ) (w : ℕ) where
  pub whole-frame : ObusRoom (many length_obu s) unit_bytes d w → Whole length_obu obu_bytes s d w
  unfolding unit_bytes
  whole-frame f = record { all = f.held; reads = f.reads; room = f.room }

  pub whole-unit : ObusRoom (answer flat (many frame_unit s)) unit_bytes d w → Whole frame_unit unit_bytes s d w
  whole-unit f = go (many frame_unit s) refl f.reads
    where
      go : (x : Answer (List (List Obu))) → many frame_unit s ≡ x → answer flat x ≡ accepted f.held → Whole frame_unit unit_bytes s d w
      go (refused k) q r = let z : ◌≡◌ {A = ℕ} 0 1 = cc in absurd (omega arith)
      go (accepted fs) q r =
          let y : flat fs ≡ f.held = cc in
          let n : flat_map unit_bytes fs ≡ unit_bytes f.held = flat-units fs ∙ bytes-flat fs ∙ ap unit_bytes y in
          record { all = fs; reads = q; room = rw n f.room }

  -- the whole frame unit, the whole unit
  pub frame-held : (x : Whole length_obu obu_bytes s d w) {d' : List ℕ} {w' : ℕ} → Wrote d w (flat_map obu_bytes x.all) w' d' → Wrote d w (unit_bytes (accepted_list (many length_obu s))) w' d'
  unfolding unit_bytes
  frame-held x l = is_held x.reads l

  pub unit-held : (x : Whole frame_unit unit_bytes s d w) {d' : List ℕ} {w' : ℕ} → Wrote d w (flat_map unit_bytes x.all) w' d' → Wrote d w (unit_bytes (accepted_list (answer flat (many frame_unit s)))) w' d'
  unit-held x l = is_held (ap (answer flat) x.reads) (rw (flat-units x.all ∙ bytes-flat x.all) at l)

-- ---- the ends of units

-- the units before r, and their ends, are written
pub record All (s r d e d' e' : List ℕ) (w u : ℕ) : Type 0 where
  pub walk : Walk temporal_unit unit_bytes s r d 0 d' w
  pub marks : Wrote e 0 (ends_of 0 (map unit_bytes walk.done)) u e'
  pub kept : length e' ≡ length e

pub whole-all : {s d e : List ℕ} → UnitsRoom s d e → Whole temporal_unit unit_bytes s d 0
whole-all m = record { all = m.units; reads = m.reads; room = rw (flat-units m.units) (omega (arith, m.room)) }

pub all_start : (s d e : List ℕ) → All s s d e d e 0 0
unfolding ends_of walk_start
all_start s d e = record { walk = walk_start temporal_unit unit_bytes temporal-shrinks s d 0; marks = wrote_none e 0; kept = refl }

module _ {s d e : List ℕ} (m : UnitsRoom s d e) {r d' e' : List ℕ} {w u : ℕ} (k : All s r d e d' e' w u) where
  abbrev x : Whole temporal_unit unit_bytes s d 0
  x = whole-all m

  module _ (os : List Obu) {t : List ℕ} (i : temporal_unit r ≡ item os t) where
    pub all_small : w + length (unit_bytes os) ≤ limit
    unfolding whole-all
    all_small =
        let n = (walk-within temporal_unit unit_bytes temporal-shrinks s d 0 x k.walk i).0 in
        omega (arith, m.small, ap length (flat-units m.units))

    count : u ≡ length k.walk.done
    count = omega (arith, k.marks.next, ends-length 0 (map unit_bytes k.walk.done), length-map k.walk.done unit_bytes)

    pub all-slot : u < length e'
    unfolding whole-all
    all-slot =
        let n = (walk-within temporal_unit unit_bytes temporal-shrinks s d 0 x k.walk i).1 in
        omega (arith, count, m.slots, k.kept)

    pub all-next : {d'' : List ℕ} {w'' : ℕ} → Wrote d' w (unit_bytes os) w'' d'' → All s t d e d'' (set e' u w'') w'' (u + 1)
    unfolding walk-next
    all-next {d''} {w''} n =
        let done = k.walk.done in
        let us = map unit_bytes done in
        let q : w'' ≡ 0 + length (stream_bytes us) + length (unit_bytes os) = omega (arith, n.next, k.walk.laid.next, ap length (flat-units done)) in
        let t : ends_of 0 (map unit_bytes (done ++ (os ∷ []))) ≡ ends_of 0 us ++ (w'' ∷ []) =
        ap (ends_of 0) (map-append unit_bytes done (os ∷ [])) ∙ ends_more 0 us (unit_bytes os) ∙ ap (λ j. ends_of 0 us ++ (j ∷ [])) (sym q) in
        record {
          walk = walk-next temporal_unit unit_bytes temporal-shrinks s d 0 x k.walk i n;
          marks = rw t (wrote-more k.marks (omega arith) (record { next = refl; out = pasted-one e' u w'' all-slot }));
          kept = length-set e' u w'' ∙ k.kept;
        }

  pub all_end : (j : ℕ) → temporal_unit r ≡ stop j → Filled s d e d' e'
  unfolding whole-all
  all_end j q =
      let z = passed-end temporal_unit temporal-shrinks s k.walk.passed (walk-none temporal_unit unit_bytes temporal-shrinks s d 0 x k.walk j q) in
      let g = x.reads in
      let f : k.walk.done ≡ m.units = cc in
      record {
        out = rw m.reads ((walk_end temporal_unit unit_bytes temporal-shrinks s d 0 x k.walk j q).out ∙ ap (pasted d 0) (flat-units m.units));
        ends = rw m.reads (k.marks.out ∙ ap (λ us. pasted e 0 (ends_of 0 (map unit_bytes us))) f);
      }

-- Laws of units written to Annex B: what is counted, and what is written.
use Prim.Native.Nat.{ℕ, zero, suc, ◌+◌, ◌-◌, ◌*◌, ◌≤◌, ◌<◌}
use native.Mathlib.Omega.{arith}
use mathlib.Core.Path.{◌≡◌, refl, sym, ap, ◌∙◌}
use mathlib.Core.List.{List, [], ◌∷◌, ◌++◌, flat_map, append_assoc, append-nil}
use mathlib.Core.Option.{Option}
use lib.ListN.{length, get_or, take, drop, length-append, length-drop, take-append-drop}
use lib.Seq.{take_all, take-suc, drop-cons}
use native.Mathlib.Numerals.{add-one}
use Rattle.container.specs.Stream.{flat, stream_bytes}
use Rattle.container.specs.Lists.{listed}
use Rattle.container.specs.declared.lists.Units.{Units}
use Rattle.container.proofs.ListLaws.{units-bytes, list-listed}
use native.Mathlib.Decide.{dec_lt}
use borrow.Author.Tests.{lt-ltb}
use Rattle.bitio.specs.Parse.{Answer, refused, accepted, answer, Head, stop, item, many, accepted_list}
use Rattle.bitio.specs.Leb.{leb_bytes, framed}
use Rattle.bitio.proofs.LebLaws.{bytes_most}
use Rattle.bitio.proofs.LentLaws.{wrote_none, wrote-more, wrote-length}
use Rattle.obu.specs.Obu.{Obu, passes, ext_bytes, header, head_obu, obus_of, obus}
use Rattle.obu.specs.Place.{wrong, part, place_of, obu_place}
use Rattle.obu.specs.Write.{obu}
use Rattle.obu.proofs.ObuLaws.{obu-shrinks}
use Rattle.obu.proofs.PlaceLaws.{part_placed, IsPlaced, is-wrong}
use Rattle.container.specs.AnnexB.{inner_bytes, annexb_unit, wrote, annexb_bytes}
use Rattle.bitio.specs.Limits.{limit}
use Rattle.container.specs.Units.{count_of, out_after}
use Rattle.bitio.specs.Lent.{Wrote}
use Rattle.annexb.specs.code.Fill.{ObusRoom}
use Rattle.annexb.specs.code.Join.{inner_length, framed_length, AnnexbRoom}
use Rattle.annexb.proofs.PassedLaws.{ahead, Passed, passed_start, passed-next, passed-stop, passed-end}
use Rattle.annexb.proofs.FillLaws.{flat_map-append, Whole}
use Rattle.obu.proofs.WriteLaws.{ext-most}

-- ---- lengths

pub framed-size : (p : List ℕ) → length (framed p) ≡ framed_length (length p)
unfolding framed
framed-size p = length-append (leb_bytes (length p)) p

pub inner-size : (o : Obu) → length (inner_bytes o) ≡ framed_length (inner_length o.ext (length o.payload))
inner-size o =
    let n : length (header 0 o.type o.ext ++ o.payload) ≡ inner_length o.ext (length o.payload) = omega (arith, length-append (ext_bytes o.ext) o.payload) in
    framed-size (header 0 o.type o.ext ++ o.payload) ∙ ap framed_length n

pub unit_size : (os : List Obu) → length (annexb_unit os) ≡ framed_length (framed_length (length (flat_map inner_bytes os)))
unfolding annexb_unit
unit_size os = framed-size (framed (flat_map inner_bytes os)) ∙ ap framed_length (framed-size (flat_map inner_bytes os))

-- a length takes at most ten bytes, and at most one more than it counts
pub leb-few : (n : ℕ) → n ≤ 2000000000000 → (length (leb_bytes n) ≤ 10) × (length (leb_bytes n) ≤ n + 1)
leb-few n l =
    let a = bytes_most 9 n (omega arith) in (
      omega arith,
      elim (dec_lt n 128) [
        | yes s ↦ omega (arith, bytes_most 0 n s)
        | no b ↦ omega arith
      ],
    )

pub inner-few : (x : Option ℕ) (n : ℕ) → n ≤ limit → (inner_length x n ≤ n + 2) × (framed_length (inner_length x n) ≤ n + 12)
inner-few x n l =
    let a = ext-most x in
    (omega arith, omega (arith, (leb-few (inner_length x n) (omega arith)).0))

-- at most three bytes more than four times as many
pub unit-few : (n : ℕ) → n ≤ 1000000000 * 48 → (framed_length n ≤ 2 * n + 1) × (framed_length (framed_length n) ≤ 4 * n + 3)
unit-few n l =
    let a = (leb-few n (omega arith)).1 in
    let b = (leb-few (framed_length n) (omega arith)).1 in
    (omega arith, omega arith)

-- ---- an OBU of a unit

pub placed-is : {s : List ℕ} {at t : ℕ} {x : Option ℕ} {a b : ℕ} (i : IsPlaced s at t x a b) → obu t x (part s a b) ≡ i.obu
placed-is i = rw (← i.type, ← i.ext, part_placed i.placed)

pub placed-size : {s : List ℕ} {at t : ℕ} {x : Option ℕ} {a b : ℕ} (i : IsPlaced s at t x a b) → length (inner_bytes i.obu) ≡ framed_length (inner_length x (length (part s a b)))
placed-size i = rw (← i.ext, part_placed i.placed) (inner-size i.obu)

placed-few : {s : List ℕ} {at t : ℕ} {x : Option ℕ} {a b : ℕ} (i : IsPlaced s at t x a b) → length (inner_bytes i.obu) ≡ framed_length (inner_length x (b - a))
placed-few i = rw (← i.ext, i.placed.size) (inner-size i.obu)

-- what is left behind `at`
pub left-some : (s : List ℕ) (at : ℕ) → at < length s → 0 < length (drop at s)
left-some s at l = omega (arith, length-drop at s)

pub left-none : (s : List ℕ) (at : ℕ) → length s ≤ at → length (drop at s) ≡ 0
left-none s at l = omega (arith, length-drop at s)

pub stop-at : (s : List ℕ) (at k : ℕ) → at < length s → obu_place s at ≡ wrong k → head_obu (drop at s) ≡ stop k
unfolding obu_place
stop-at s at k l q = go (head_obu (drop at s)) (rw (lt-ltb at (length s) l) at q)
  where
    go : (x : Head Obu) → place_of s x ≡ wrong k → x ≡ stop k
    go (stop j) q = let z : j ≡ k = cc in rw z
    go (item y r) q = let z : ◌≡◌ {A = ℕ} 0 1 = cc in absurd (omega arith)

pub obus-are : (s : List ℕ) → obus s ≡ many head_obu s
unfolding obus_of
obus-are s = refl

-- ---- counting the OBUs of a unit

abbrev pub counts : List ℕ → Answer ℕ
counts s = answer (λ os. length (flat_map inner_bytes os)) (obus s)

pub record Counting (s : List ℕ) (at n : ℕ) : Type 0 where
  pub done : List Obu
  pub passed : Passed head_obu s (drop at s) done
  pub within : at ≤ length s
  pub bytes-are : n ≡ length (flat_map inner_bytes done)
  pub few : n ≤ 12 * at

pub counting-start : (s : List ℕ) → Counting s 0 0
unfolding flat_map
counting-start s = record { done = []; passed = passed_start head_obu (obu-shrinks passes) s; within = omega arith; bytes-are = refl; few = omega arith }

one_more : (os : List Obu) (o : Obu) → length (flat_map inner_bytes (os ++ (o ∷ []))) ≡ length (flat_map inner_bytes os) + length (inner_bytes o)
unfolding flat_map
one_more os o =
    ap length (flat_map-append inner_bytes os (o ∷ [])) ∙ length-append (flat_map inner_bytes os) (inner_bytes o ++ [])
    ∙ ap (λ l. length (flat_map inner_bytes os) + length l) (append-nil (inner_bytes o))

module _ {s : List ℕ} {at n : ℕ} (c : Counting s at n) where
  pub counting-next : length s ≤ limit → {t : ℕ} {x : Option ℕ} {a b m : ℕ} → IsPlaced s at t x a b → m ≡ framed_length (inner_length x (b - a)) → Counting s b (n + m)
  counting-next l {x = x} {a} {b} {m} i q =
      let p = i.placed in
      let z = placed-few i in
      let f = (inner-few x (b - a) (omega (arith, p.within))).1 in
      record {
        done = c.done ++ (i.obu ∷ []);
        passed = passed-next head_obu (obu-shrinks passes) s c.passed p.head;
        within = p.within;
        bytes-are = omega (arith, c.bytes-are, one_more c.done i.obu);
        few = omega (arith, c.few, p.after, p.ends);
      }

  pub counting-stop : (k : ℕ) → obu_place s at ≡ wrong k → refused k ≡ counts s
  counting-stop k q =
      let l = (is-wrong s at k q).0 in
      rw (obus-are s ∙ passed-stop head_obu (obu-shrinks passes) s c.passed (left-some s at l) k (stop-at s at k l q))

  pub counting-end : length s ≤ at → accepted n ≡ counts s
  counting-end l = rw (obus-are s ∙ passed-end head_obu (obu-shrinks passes) s c.passed (left-none s at l)) (ap accepted c.bytes-are)

-- ---- counting units

annexb-append : (a b : List (List ℕ)) {bs : List ℕ} → annexb_bytes a ≡ accepted bs → annexb_bytes (a ++ b) ≡ ahead bs (annexb_bytes b)
unfolding annexb_bytes
annexb-append [] b {bs} e = let z : ◌≡◌ {A = List ℕ} [] bs = cc in rw (← z) (same (annexb_bytes b))
  where
    same : (x : Answer (List ℕ)) → x ≡ ahead [] x
    same (refused k) = refl
    same (accepted l) = refl
annexb-append (u ∷ a) b {bs} e = go (obus u) (annexb_bytes a) refl (λ cs q. annexb-append a b q) e
  where
    assoc : (p q : List ℕ) (x : Answer (List ℕ)) → answer (λ l. p ++ l) (ahead q x) ≡ ahead (p ++ q) x
    assoc p q (refused k) = refl
    assoc p q (accepted l) = ap accepted (sym (append_assoc p q l))

    go : (x : Answer (List Obu)) (y : Answer (List ℕ)) → annexb_bytes a ≡ y → ((cs : List ℕ) → annexb_bytes a ≡ accepted cs → annexb_bytes (a ++ b) ≡ ahead cs (annexb_bytes b)) → wrote x y ≡ accepted bs → wrote x (annexb_bytes (a ++ b)) ≡ ahead bs (annexb_bytes b)
    go (refused k) y q ih e = let z : ◌≡◌ {A = ℕ} 0 1 = cc in absurd (omega arith)
    go (accepted os) (refused k) q ih e = let z : ◌≡◌ {A = ℕ} 0 1 = cc in absurd (omega arith)
    go (accepted os) (accepted cs) q ih e =
        let z : annexb_unit os ++ cs ≡ bs = cc in
        rw (ih cs q) (assoc (annexb_unit os) cs (annexb_bytes b) ∙ rw z)

module _ (done : List (List ℕ)) {bs : List ℕ} (e : annexb_bytes done ≡ accepted bs) (u : List ℕ) where
  -- one unit more
  pub bytes-more : {os : List Obu} → obus u ≡ accepted os → annexb_bytes (done ++ (u ∷ [])) ≡ accepted (bs ++ annexb_unit os)
  unfolding annexb_bytes
  bytes-more {os} q = annexb-append done (u ∷ []) e ∙ rw q (ap (λ l. accepted (bs ++ l)) (append-nil (annexb_unit os)))

  -- a unit that is refused
  pub bytes-bad : (ls : List (List ℕ)) {k : ℕ} → obus u ≡ refused k → annexb_bytes (done ++ (u ∷ ls)) ≡ refused k
  unfolding annexb_bytes
  bytes-bad ls q = annexb-append done (u ∷ ls) e ∙ rw q

  -- a unit of units that are accepted
  pub bytes-part : (ls : List (List ℕ)) {all : List ℕ} → annexb_bytes (done ++ (u ∷ ls)) ≡ accepted all
      → (os : List Obu) × (obus u ≡ accepted os) × (r : List ℕ) × (all ≡ bs ++ (annexb_unit os ++ r))
  unfolding annexb_bytes
  bytes-part ls {all} q = go (obus u) (annexb_bytes ls) refl (sym (annexb-append done (u ∷ ls) e) ∙ q)
    where
      go : (x : Answer (List Obu)) (y : Answer (List ℕ)) → obus u ≡ x → ahead bs (wrote x y) ≡ accepted all → (os : List Obu) × (obus u ≡ accepted os) × (r : List ℕ) × (all ≡ bs ++ (annexb_unit os ++ r))
      go (refused k) y p q = let z : ◌≡◌ {A = ℕ} 0 1 = cc in absurd (omega arith)
      go (accepted os) (refused k) p q = let z : ◌≡◌ {A = ℕ} 0 1 = cc in absurd (omega arith)
      go (accepted os) (accepted cs) p q = (os, p, cs, let z : bs ++ (annexb_unit os ++ cs) ≡ all = cc in sym z)

-- the units up to i are counted
pub record Totalling (us : List (List ℕ)) (i n : ℕ) : Type 0 where
  pub bytes : List ℕ
  pub made : annexb_bytes (take i us) ≡ accepted bytes
  pub bytes-are : n ≡ length bytes
  pub few : n ≤ 48 * length (flat (take i us)) + 3 * i

pub totalling-start : (us : List (List ℕ)) → Totalling us 0 0
unfolding annexb_bytes
totalling-start us = record { bytes = []; made = refl; bytes-are = refl; few = omega arith }

-- what was counted of a unit
pub counts-is : (u : List ℕ) {n : ℕ} → counts u ≡ accepted n → (os : List Obu) × (obus u ≡ accepted os) × (n ≡ length (flat_map inner_bytes os))
counts-is u {n} q = go (obus u) refl q
  where
    go : (x : Answer (List Obu)) → obus u ≡ x → answer (λ os. length (flat_map inner_bytes os)) x ≡ accepted n → (os : List Obu) × (obus u ≡ accepted os) × (n ≡ length (flat_map inner_bytes os))
    go (refused k) p q = let z : ◌≡◌ {A = ℕ} 0 1 = cc in absurd (omega arith)
    go (accepted os) p q = (os, p, let z : length (flat_map inner_bytes os) ≡ n = cc in sym z)

pub counts-held : (u : List ℕ) {n : ℕ} {os : List Obu} → obus u ≡ accepted os → counts u ≡ accepted n → n ≡ length (flat_map inner_bytes os)
counts-held u {n} {os} p q = let z : accepted (length (flat_map inner_bytes os)) ≡ accepted n = rw p at q in cc

pub counts-refused : (u : List ℕ) {k : ℕ} → counts u ≡ refused k → obus u ≡ refused k
counts-refused u {k} q = go (obus u) q
  where
    go : (x : Answer (List Obu)) → answer (λ os. length (flat_map inner_bytes os)) x ≡ refused k → x ≡ refused k
    go (refused j) q = let z : j ≡ k = cc in rw z
    go (accepted os) q = let z : ◌≡◌ {A = ℕ} 0 1 = cc in absurd (omega arith)

-- the bytes of a unit, and of those before it
flat-more : (us : List (List ℕ)) (u : List ℕ) → length (flat (us ++ (u ∷ []))) ≡ length (flat us) + length u
unfolding flat
flat-more [] u = omega (arith, ap length (append-nil u))
flat-more (v ∷ us) u = omega (arith, length-append v (flat (us ++ (u ∷ []))), length-append v (flat us), flat-more us u)

flat-less : (i : ℕ) (us : List (List ℕ)) → length (flat (take i us)) ≤ length (flat us)
unfolding flat
flat-less zero us = omega arith
flat-less (suc i) [] = omega arith
flat-less (suc i) (u ∷ us) = omega (arith, length-append u (flat (take i us)), length-append u (flat us), flat-less i us)

-- a list's units have all bytes
pub listed-bytes : (x : Units) → length (flat (listed x.bytes.now x.ends.now)) ≡ length x.bytes.now
unfolding stream_bytes
listed-bytes x = ap length (units-bytes x.bytes.now x.ends.now (listed x.bytes.now x.ends.now) (list-listed x))

module _ (us : List (List ℕ)) {i : ℕ} (l : i < length us) where
  abbrev unit : List ℕ
  unit = get_or us i []

  one-taken : take (i + 1) us ≡ take i us ++ (unit ∷ [])
  one-taken = rw (add-one i) (take-suc us i [] l)

  around : us ≡ take i us ++ (unit ∷ drop (suc i) us)
  around = sym (take-append-drop i us) ∙ ap (λ t. take i us ++ t) (drop-cons us i [] l)

module _ (us : List (List ℕ)) {i n : ℕ} (t : Totalling us i n) where
  module _ (l : i < length us) where
    pub totalling-next : {m k : ℕ} → counts (unit us l) ≡ accepted m → m ≤ 12 * length (unit us l) → length (unit us l) ≤ limit → k ≡ framed_length (framed_length m) → Totalling us (i + 1) (n + k)
    totalling-next {m} {k} q b h z =
        let (os, p, y) = counts-is (unit us l) q in
        let f = (unit-few m (omega arith)).1 in
        let w : framed_length (framed_length m) ≡ length (annexb_unit os) = ap (λ j. framed_length (framed_length j)) y ∙ sym (unit_size os) in
        record {
          bytes = t.bytes ++ annexb_unit os;
          made = rw (one-taken us l) (bytes-more (take i us) t.made (unit us l) p);
          bytes-are = omega (arith, t.bytes-are, length-append t.bytes (annexb_unit os));
          few = omega (arith, t.few, ap (λ x. length (flat x)) (one-taken us l), flat-more (take i us) (unit us l));
        }

    pub totalling-stop : {k : ℕ} → counts (unit us l) ≡ refused k → refused k ≡ count_of (annexb_bytes us)
    totalling-stop q =
        let e = ap annexb_bytes (around us l) ∙ bytes-bad (take i us) t.made (unit us l) (drop (suc i) us) (counts-refused (unit us l) q) in
        rw e

  pub totalling-few : n ≤ 48 * length (flat us) + 3 * i
  totalling-few = omega (arith, t.few, flat-less i us)

  pub totalling-end : length us ≤ i → accepted n ≡ count_of (annexb_bytes us)
  totalling-end l =
      let e = ap annexb_bytes (sym (take_all i us l)) ∙ t.made in
      rw e (ap accepted t.bytes-are)

-- ---- writing an OBU, a unit

module _ {d : List ℕ} {w : ℕ} (l : w ≤ length d) {d₁ d₂ d₃ : List ℕ} {w₁ w₂ w₃ : ℕ} where
  -- the length, the header and the extension, the payload
  pub inner-laid : (t : ℕ) (x : Option ℕ) (p : List ℕ) → Wrote d w (leb_bytes (inner_length x (length p))) w₁ d₁ → Wrote d₁ w₁ (header 0 t x) w₂ d₂ → Wrote d₂ w₂ p w₃ d₃
      → Wrote d w (inner_bytes (obu t x p)) w₃ d₃
  unfolding framed
  inner-laid t x p a b c =
      let n : inner_length x (length p) ≡ length (header 0 t x ++ p) = omega (arith, length-append (ext_bytes x) p) in
      rw append_assoc at (wrote-more (wrote-more (rw n at a) l b) l c)

  -- the unit's size, the frame unit's size, the OBUs
  pub unit-laid : (os : List Obu) → (let n = length (flat_map inner_bytes os) in Wrote d w (leb_bytes (framed_length n)) w₁ d₁ → Wrote d₁ w₁ (leb_bytes n) w₂ d₂ → Wrote d₂ w₂ (flat_map inner_bytes os) w₃ d₃
      → Wrote d w (annexb_unit os) w₃ d₃)
  unfolding annexb_unit framed
  unit-laid os a b c =
      let x = flat_map inner_bytes os in
      let n : framed_length (length x) ≡ length (leb_bytes (length x) ++ x) = sym (length-append (leb_bytes (length x)) x) in
      rw append_assoc at (wrote-more (wrote-more (rw n at a) l b) l c)

-- the OBUs of a unit, to be written one after another
pub whole-obus : {u d : List ℕ} {w : ℕ} → ObusRoom (obus u) (flat_map inner_bytes) d w → Whole head_obu inner_bytes u d w
whole-obus {u} p = record { all = p.held; reads = sym (obus-are u) ∙ p.reads; room = p.room }

pub obus-laid : {u d : List ℕ} {w : ℕ} (x : Whole head_obu inner_bytes u d w) {d' : List ℕ} {w' : ℕ} → Wrote d w (flat_map inner_bytes x.all) w' d' → Wrote d w (flat_map inner_bytes (accepted_list (obus u))) w' d'
obus-laid {u} x l = rw (obus-are u ∙ x.reads) l

-- ---- writing units

-- the units up to i are written
pub record Putted (us : List (List ℕ)) (d : List ℕ) (i : ℕ) (d' : List ℕ) (w : ℕ) : Type 0 where
  pub bytes : List ℕ
  pub made : annexb_bytes (take i us) ≡ accepted bytes
  pub laid : Wrote d 0 bytes w d'
  pub kept : length d' ≡ length d

pub putted-start : (us : List (List ℕ)) (d : List ℕ) → Putted us d 0 d 0
unfolding annexb_bytes
putted-start us d = record { bytes = []; made = refl; laid = wrote_none d 0; kept = refl }

module _ {us : List (List ℕ)} {d : List ℕ} (x : AnnexbRoom us d) {i : ℕ} {d' : List ℕ} {w : ℕ} (t : Putted us d i d' w) where
  module _ (l : i < length us) where
    -- the OBUs of the unit, and what is written behind it
    next_one : (os : List Obu) × (obus (unit us l) ≡ accepted os) × (r : List ℕ) × (x.bytes ≡ t.bytes ++ (annexb_unit os ++ r))
    next_one = bytes-part (take i us) t.made (unit us l) (drop (suc i) us) (sym (ap annexb_bytes (around us l)) ∙ x.made)

    pub putted-unit : ObusRoom (obus (unit us l)) annexb_unit d' w
    putted-unit =
        let (os, p, r, y) = next_one in
        let n = ap length y ∙ length-append t.bytes (annexb_unit os ++ r) in
        record { held = os; reads = p; room = omega (arith, length-append (annexb_unit os) r, t.laid.next, t.kept, x.room) }

    pub putted-next : {d'' : List ℕ} {w'' : ℕ} → Wrote d' w (annexb_unit (accepted_list (obus (unit us l)))) w'' d'' → Putted us d (i + 1) d'' w''
    putted-next m =
        let u = putted-unit in
        let k = rw u.reads at m in
        record {
          bytes = t.bytes ++ annexb_unit u.held;
          made = rw (one-taken us l) (bytes-more (take i us) t.made (unit us l) u.reads);
          laid = wrote-more t.laid (omega arith) k;
          kept = wrote-length k u.room ∙ t.kept;
        }

  pub putted-end : length us ≤ i → d' ≡ out_after (annexb_bytes us) d
  putted-end l = let e = ap annexb_bytes (sym (take_all i us l)) ∙ t.made in rw e t.laid.out

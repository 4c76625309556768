-- Laws of OBUs from one position to another, measured and written.
use Prim.Native.Nat.{ℕ, zero, suc, ◌+◌, ◌-◌, ◌*◌, ◌^◌, ◌≤◌, ◌<◌, min}
use native.Mathlib.Nat.{eq-or-lt_of_le}
use native.Mathlib.Omega.{arith}
use mathlib.Core.Path.{◌≡◌, refl, sym, ap, ap₂, ◌∙◌}
use mathlib.Core.List.{List, [], ◌∷◌, ◌++◌, flat_map}
use mathlib.Core.Option.{Option}
use mathlib.Core.Bool.{Bool, true, false, cond as pick, not}
use mathlib.Core.Logic.{⊎_elim}
use lib.ListN.{length, drop, length-append, length-drop, drop_of_length-le}
use lib.Dec.{ltb}
use borrow.Author.Tests.{lt-ltb, ltb-true, ltb-false}
use Rattle.bitio.specs.Parse.{accepted, Head, stop, item}
use Rattle.bitio.specs.Lent.{pasted, Wrote}
use Rattle.bitio.proofs.LebLaws.{bytes-length}
use Rattle.bitio.proofs.LentLaws.{pasted-nil, pasted-more, pasted_length}
use Rattle.obu.specs.Obu.{Obu, passes, head_obu, obus, obu_bytes, unit_bytes}
use Rattle.obu.specs.Place.{Place, no_more, wrong, lies, extension_says, place_of, obu_place, part}
use Rattle.obu.specs.Walk.{Walks, GivesObu}
use Rattle.obu.specs.declared.obus.Obus.{Obus}
use Rattle.obu.specs.declared.reader.Obu.{Obu as Found}
use Rattle.std.specs.Prelude.{Result, Ok, Err, Option as Optional, Some, None}
use Rattle.bitio.specs.Refusal.{number}
use Rattle.bitio.specs.declared.refusal.Refusal.{Refusal}
use Rattle.obu.specs.Write.{obu_length, obu}
use Rattle.bitio.proofs.ParseLaws.{parts-length, onto-is}
use Rattle.obu.proofs.ObuLaws.{is-obu, obus-nil, obus-item, obus-stop}
use Rattle.obu.proofs.LengthLaws.{obu-length}
use Rattle.obu.proofs.PlaceLaws.{Placed, IsPlaced, is-placed, is-end, is-wrong, part_placed}
use Rattle.bitio.specs.Limits.{limit}
use Rattle.obu.specs.Unit.{is_delimiter}
use Rattle.obu.proofs.WriteLaws.{ext-most}
use Rattle.container.specs.Stream.{others}
use Rattle.container.specs.code.Ranges.{Step, Range, here, more, is_kept, kept_one, kept_bytes, Ranged, Measured, Roomy, WroteKept}

-- ---- ranges

module _ {s : List ℕ} where
  pub range-le : {a b : ℕ} {os : List Obu} → Range s a b os → a ≤ b
  range-le (here l) = omega arith
  range-le (more p r) = omega (arith, range-le r, p.after)

  pub range-within : {a b : ℕ} {os : List Obu} → Range s a b os → b ≤ length s
  range-within (here l) = l
  range-within (more p r) = range-within r

  -- what stands at a position is one OBU
  step_same : {a m n : ℕ} {o p : Obu} → Step s a o m → Step s a p n → (o ≡ p) × (m ≡ n)
  step_same {a} {m} {n} {o} {p} x y =
      let e : item o (drop m s) ≡ item p (drop n s) = sym x.head ∙ y.head in
      let d : drop m s ≡ drop n s = cc in
      (cc, omega (arith, x.within, y.within, length-drop m s, length-drop n s, ap length d))

  same : {a b c d : ℕ} {os ps : List Obu} → Range s a b os → Range s c d ps → a ≡ c → b ≡ d → os ≡ ps
  same (here l) (here k) e f = refl
  same (here l) (more p r) e f = absurd (omega (arith, p.after, range-le r))
  same (more p r) (here l) e f = absurd (omega (arith, p.after, range-le r))
  same (more {o} p r) (more {m = n} {o = x} q t) e f =
      let k = step_same {n = n} {p = x} p (rw e q) in
      ap₂ ◌∷◌ k.0 (same r t k.1 f)

  -- the OBUs of a range are one list
  pub range_same : {a b : ℕ} {os ps : List Obu} → Range s a b os → Range s a b ps → os ≡ ps
  range_same r t = same r t refl refl

  pub range-append : {a b c : ℕ} {os ps : List Obu} → Range s a b os → Range s b c ps → Range s a c (os ++ ps)
  range-append (here l) t = t
  range-append (more p r) t = more p (range-append r t)

  pub placed-step : {at a b : ℕ} {o : Obu} → Placed s at o a b → Step s at o b
  placed-step p = record { after = omega (arith, p.after, p.ends); within = p.within; head = p.head }

  pub range-one : {at b : ℕ} {o : Obu} → Step s at o b → Range s at b (o ∷ [])
  range-one p = more p (here p.within)

-- what is left behind the first OBU, o, up to m
pub record Took (s : List ℕ) (b : ℕ) (os : List Obu) (o : Obu) (m : ℕ) : Type 0 where
  pub rest : List Obu
  pub list : os ≡ o ∷ rest
  pub range : Range s m b rest

module _ {s : List ℕ} {b : ℕ} where
  took-at : {a at m : ℕ} {os : List Obu} {o : Obu} → Range s a b os → a ≡ at → at < b → Step s at o m → Took s b os o m
  took-at (here l) e h p = absurd (omega arith)
  took-at (more {o = x} {os} q r) e h p =
      let k = step_same (rw e at q) p in
      record { rest = os; list = ap (λ y. y ∷ os) k.0; range = rw k.1 at r }

  -- the OBU that stands at the start of a range is its first
  pub took : {at m : ℕ} {os : List Obu} {o : Obu} → Range s at b os → at < b → Step s at o m → Took s b os o m
  took r h p = took-at r refl h p

  -- nothing is left at the end
  ended : {a at : ℕ} {os : List Obu} → Range s a b os → a ≡ at → b ≤ at → os ≡ []
  ended (here l) e h = refl
  ended (more q r) e h = absurd (omega (arith, q.after, range-le r))

  pub range-end : {at : ℕ} {os : List Obu} → Range s at b os → b ≤ at → os ≡ []
  range-end r h = ended r refl h

  -- before it an OBU is found
  found : {a at : ℕ} {os : List Obu} (k : ℕ) → Range s a b os → a ≡ at → at < b → obu_place s at ≡ wrong k → ⊥
  unfolding obu_place
  found k (here l) e h q = omega arith
  found {a} {at} k (more p r) e h q =
      let l : at < length s = omega (arith, p.after, p.within) in
      let z : ◌≡◌ {A = ℕ} 0 1 = cc (rw (lt-ltb at (length s) l, rw e at p.head) at q) in
      omega arith

  pub range-found : {at : ℕ} {os : List Obu} (k : ℕ) → Range s at b os → at < b → obu_place s at ≡ wrong k → ⊥
  range-found k r h q = found k r refl h q

-- what reaches the end of the bytes is not refused
pub range-sound : {s : List ℕ} {at : ℕ} {os : List Obu} (k : ℕ) → Range s at (length s) os → obu_place s at ≡ wrong k → ⊥
range-sound {s} {at} k r q = range-found k r (is-wrong s at k q).0 q

-- ---- up to the end of the bytes

module _ (s : List ℕ) where
  -- the OBU at the head of what is left is placed
  head-placed : (at : ℕ) (o : Obu) (r : List ℕ) → at < length s → head_obu (drop at s) ≡ item o r → (b : ℕ) × Step s at o b
  unfolding obu_place
  head-placed at o r l e =
      let k : obu_place s at ≡ place_of s (item o r) = rw (lt-ltb at (length s) l, e) in
      let g = is-placed s at k in
      let q : g.obu ≡ o = let h = g.placed.head in cc in
      (length s - length r, rw q at (placed-step g.placed))

  none_left : (at : ℕ) (os : List Obu) → at ≡ length s → obus (drop at s) ≡ accepted os → Range s at (length s) os
  none_left at os q e =
      let d = obus-nil in
      let x = ap (λ l. obus l) (drop_of_length-le s {i = at} (omega arith)) in
      let n : os ≡ [] = cc in
      rw (n, q) (here {a = length s} (omega arith))

  from : (k at : ℕ) (os : List Obu) → length s - at ≤ k → at ≤ length s → obus (drop at s) ≡ accepted os → Range s at (length s) os
  from zero at os f l e = none_left at os (omega arith) e
  from (suc k) at os f l e =
      ⊎_elim (λ m. none_left at os m e) (λ m. go (head_obu (drop at s)) m refl (from k)) (eq-or-lt_of_le l)
    where
      go : (x : Head Obu) → at < length s → head_obu (drop at s) ≡ x → ((b : ℕ) (ps : List Obu) → length s - b ≤ k → b ≤ length s → obus (drop b s) ≡ accepted ps → Range s b (length s) ps) → Range s at (length s) os
      go (stop j) m h ih =
          let q = obus-stop (drop at s) j (omega (arith, length-drop at s)) h in
          let z : ◌≡◌ {A = ℕ} 0 1 = cc in
          absurd (omega arith)
      go (item o r) m h ih =
          let (b, p) = head-placed at o r m h in
          let x = onto-is o (obus (drop b s)) os (sym (obus-item (drop at s) o (drop b s) p.head) ∙ e) in
          rw x.2 (more p (ih b x.0 (omega (arith, p.after)) p.within x.1))

  -- what is read from a position on reaches the end
  pub range-from : {at : ℕ} {os : List Obu} → at ≤ length s → obus (drop at s) ≡ accepted os → Range s at (length s) os
  range-from {at} {os} l e = from (length s - at) at os (omega arith) l e

  pub range-whole : {os : List Obu} → obus s ≡ accepted os → Range s 0 (length s) os
  range-whole e = range-from (omega arith) e

-- ---- the walk over a range

-- it goes up to b
pub record Within (s : List ℕ) (b : ℕ) (it : Obus) : Type 0 where
  pub bytes : it.bytes.now ≡ s
  pub end : it.end ≡ b

pub within-start : {s : List ℕ} {a b : ℕ} {os : List Obu} {it : Obus} → Range s a b os → Walks it s a (min b (length s)) → Within s b it
within-start r w = let l = range-within r in record { bytes = w.0; end = omega (arith, w.2) }

module _ {s : List ℕ} {b : ℕ} {it : Obus} (w : Within s b it) (new : Obus) where
  pub within-next : (x : Optional (Result Found Refusal)) → GivesObu it x new → Within s b new
  within-next x g = record { bytes = g.1.0 ∙ w.bytes; end = g.1.2 ∙ w.end }

  stands : {p : Place} → p ≡ obu_place it.bytes.now it.at → obu_place s it.at ≡ p
  stands q = ap (λ l. obu_place l it.at) (sym w.bytes) ∙ sym q

  -- an OBU that is given lies in the range
  pub within-one : (o : Found) → GivesObu it (Some (Ok o)) new → (it.at < b) × IsPlaced s it.at o.obu_type (extension_says o.extension) o.start o.end
  within-one o g = go (ltb it.at it.end) refl g.0
    where
      go : (x : Bool) → ltb it.at it.end ≡ x → lies o.obu_type (extension_says o.extension) o.start o.end ≡ pick x (obu_place it.bytes.now it.at) no_more
          → (it.at < b) × IsPlaced s it.at o.obu_type (extension_says o.extension) o.start o.end
      go true l q = (omega (arith, ltb-true it.at it.end l, w.end), is-placed s it.at (stands q))
      go false l q = let z : ◌≡◌ {A = ℕ} 0 1 = cc in absurd (omega arith)

  module _ {os : List Obu} (r : Range s it.at b os) where
    pub within-end : GivesObu it None new → b ≤ it.at
    within-end g = go (ltb it.at it.end) refl g.0
      where
        go : (x : Bool) → ltb it.at it.end ≡ x → no_more ≡ pick x (obu_place it.bytes.now it.at) no_more → b ≤ it.at
        go true l q = omega (arith, is-end s it.at (stands q), range-within r)
        go false l q = omega (arith, ltb-false it.at it.end l, w.end)

    -- and nothing in it is refused
    pub within-sound : (e : Refusal) → GivesObu it (Some (Err e)) new → ⊥
    within-sound e g = go (ltb it.at it.end) refl g.0
      where
        go : (x : Bool) → ltb it.at it.end ≡ x → wrong (number e) ≡ pick x (obu_place it.bytes.now it.at) no_more → ⊥
        go true l q = range-found (number e) r (omega (arith, ltb-true it.at it.end l, w.end)) (stands q)
        go false l q = let z : ◌≡◌ {A = ℕ} 0 1 = cc in omega arith

-- ---- what is kept

pub kept-nil : (keep : Bool) → kept_bytes keep [] ≡ []
unfolding others unit_bytes flat_map
kept-nil true = refl
kept-nil false = refl

pub kept_cons : (keep : Bool) (o : Obu) (os : List Obu) → kept_bytes keep (o ∷ os) ≡ kept_one keep o ++ kept_bytes keep os
unfolding others unit_bytes flat_map is_kept kept_one
kept_cons true o os = refl
kept_cons false o os = go (is_delimiter o)
  where
    go : (b : Bool) → unit_bytes (pick b (others os) (o ∷ others os)) ≡ pick (not b) (obu_bytes o) [] ++ unit_bytes (others os)
    go true = refl
    go false = refl

pub kept-length : (keep : Bool) (o : Obu) → length (kept_one keep o) ≡ pick (is_kept keep o.type) (obu_length o.ext (length o.payload)) 0
unfolding kept_one
kept-length keep o = go (is_kept keep o.type)
  where
    go : (b : Bool) → length (pick b (obu_bytes o) []) ≡ pick b (obu_length o.ext (length o.payload)) 0
    go true = obu-length o
    go false = refl

-- an OBU is written in at most twelve times its bytes
pub step-most : (keep : Bool) {s : List ℕ} {a m : ℕ} {o : Obu} → Step s a o m → length (kept_one keep o) ≤ 12 * (m - a)
step-most keep {s} {a} {m} {o} p = rw kept-length (go (is_kept keep o.type))
  where
    go : (x : Bool) → pick x (obu_length o.ext (length o.payload)) 0 ≤ 12 * (m - a)
    go true =
        let i = (is-obu (drop a s) o (drop m s) p.head).parts in
        omega (arith, ext-most o.ext, bytes-length (length o.payload), parts-length i, i.some, length-drop a s, length-drop m s, p.within, p.after)
    go false = omega arith

-- and so are the OBUs of a range
pub range-most : (keep : Bool) {s : List ℕ} {a b : ℕ} {os : List Obu} → Range s a b os → length (kept_bytes keep os) ≤ 12 * (b - a)
range-most keep (here l) = omega (arith, ap length (kept-nil keep))
range-most keep (more {o} {os} p r) =
    omega (arith, ap length (kept_cons keep o os), length-append (kept_one keep o) (kept_bytes keep os), range-most keep r, step-most keep p, range-le r, p.after)

pub kept-some : (keep : Bool) (o : Obu) → is_kept keep o.type ≡ true → kept_one keep o ≡ obu_bytes o
unfolding kept_one
kept-some keep o e = rw e

pub kept-none : (keep : Bool) (o : Obu) → is_kept keep o.type ≡ false → kept_one keep o ≡ []
unfolding kept_one
kept-none keep o e = rw e

-- ---- measuring

-- n bytes up to `at`
pub record Measuring (s : List ℕ) (a b : ℕ) (keep : Bool) (at n : ℕ) : Type 0 where
  pub behind : a ≤ at
  pub small : n ≤ 12 * (at - a)
  pub short : length s ≤ limit
  pub rest : List Obu
  pub range : Range s at b rest
  pub sum : (os : List Obu) → Range s a b os → n + length (kept_bytes keep rest) ≡ length (kept_bytes keep os)

module _ {s : List ℕ} {a b : ℕ} {keep : Bool} where
  pub measure-start : Ranged s a b → Measuring s a b keep a 0
  measure-start r =
      record {
        behind = omega arith;
        small = omega arith;
        short = r.short;
        rest = r.os;
        range = r.range;
        sum = λ os t. rw (range_same t r.range) (omega arith);
      }

  module _ {at n : ℕ} (m : Measuring s a b keep at n) where
    pub measure-end : b ≤ at → Measured s a b keep n
    measure-end h os r =
        let e = ap (λ l. length (kept_bytes keep l)) (range-end m.range h) ∙ ap length (kept-nil keep) in
        omega (arith, m.sum os r)

    module _ {t : ℕ} {e : Option ℕ} {p q : ℕ} (h : at < b) (g : IsPlaced s at t e p q) where
      pub measure-short : (p ≤ q) × (q ≤ limit)
      measure-short = omega (arith, g.placed.ends, g.placed.within, m.short)

      module _ {k : ℕ} (kept-is : k ≡ pick (is_kept keep t) (obu_length e (q - p)) 0) where
        size : k ≡ length (kept_one keep g.obu)
        size = kept-is ∙ rw (← g.type, ← g.ext, g.placed.size) (sym (kept-length keep g.obu))

        pub measure-fits : n + k < 2 ^ 63
        measure-fits =
            omega (arith, size, step-most keep (placed-step g.placed), m.small, m.behind, m.short, g.placed.after, g.placed.ends, g.placed.within)

        pub measure-next : Measuring s a b keep q (n + k)
        measure-next =
            let x = took m.range h (placed-step g.placed) in
            let w : length (kept_bytes keep m.rest) ≡ k + length (kept_bytes keep x.rest) =
            ap (λ l. length (kept_bytes keep l)) x.list ∙ ap length (kept_cons keep g.obu x.rest) ∙ length-append (kept_one keep g.obu) (kept_bytes keep x.rest) ∙ rw size in
            let f = g.placed in
            record {
              behind = omega (arith, m.behind, f.after, f.ends);
              small = omega (arith, size, step-most keep (placed-step f), m.small, m.behind, f.after, f.ends);
              short = m.short;
              rest = x.rest;
              range = x.range;
              sum = λ os r. omega (arith, m.sum os r);
            }

-- ---- writing

-- the type of an OBU that is found passes
pub put-passes : {s : List ℕ} {at t : ℕ} {e : Option ℕ} {p q : ℕ} → IsPlaced s at t e p q → passes t ≡ true
put-passes g = rw g.type at g.placed.passing

-- lent memory d is o, w the next place
pub record Putting (s : List ℕ) (a b : ℕ) (keep : Bool) (d : List ℕ) (to at w : ℕ) (o : List ℕ) : Type 0 where
  pub rest : List Obu
  pub range : Range s at b rest
  pub room : w + length (kept_bytes keep rest) ≤ length o
  pub long : length o ≡ length d
  pub whole : (os : List Obu) → Range s a b os → (w + length (kept_bytes keep rest) ≡ to + length (kept_bytes keep os)) × (pasted o w (kept_bytes keep rest) ≡ pasted d to (kept_bytes keep os))

module _ {s : List ℕ} {a b : ℕ} {keep : Bool} {d : List ℕ} {to : ℕ} where
  pub put-start : Roomy s a b keep d to → Putting s a b keep d to a to d
  put-start r = record { rest = r.os; range = r.range; room = r.room; long = refl; whole = λ os t. rw (range_same t r.range) (refl, refl) }

  module _ {at w : ℕ} {o : List ℕ} (m : Putting s a b keep d to at w o) where
    pub put-end : b ≤ at → WroteKept s a b keep d to w o
    put-end h os r =
        let e : kept_bytes keep m.rest ≡ [] = ap (kept_bytes keep) (range-end m.range h) ∙ kept-nil keep in
        let x = m.whole os r in
        record {
          next = omega (arith, ap length e, x.0);
          out = sym (pasted-nil o w) ∙ ap (pasted o w) (sym e) ∙ x.1;
        }

    module _ {t : ℕ} {e : Option ℕ} {p q : ℕ} (h : at < b) (g : IsPlaced s at t e p q) where
      abbrev pub there : Obu
      there = obu t e (part s p q)

      there-is : there ≡ g.obu
      there-is = rw (← g.type, ← g.ext, part_placed g.placed)

      k : Took s b m.rest g.obu q
      k = took m.range h (placed-step g.placed)

      left : kept_bytes keep m.rest ≡ kept_one keep there ++ kept_bytes keep k.rest
      left = ap (kept_bytes keep) k.list ∙ kept_cons keep g.obu k.rest ∙ rw there-is

      left-length : length (kept_bytes keep m.rest) ≡ length (kept_one keep there) + length (kept_bytes keep k.rest)
      left-length = ap length left ∙ length-append (kept_one keep there) (kept_bytes keep k.rest)

      pub put-room : w + length (kept_one keep there) ≤ length o
      put-room = omega (arith, m.room, left-length)

      pub put_next : {v : ℕ} {n : List ℕ} → Wrote o w (kept_one keep there) v n → Putting s a b keep d to q v n
      put_next {v} {n} x =
          let bs = kept_one keep there in
          let cs = kept_bytes keep k.rest in
          let l : length n ≡ length o = ap length x.out ∙ pasted_length o w bs put-room in
          let f : pasted n v cs ≡ pasted o w (kept_bytes keep m.rest) =
          ap₂ (λ y z. pasted y z cs) x.out x.next ∙ pasted-more o w bs (omega (arith, put-room)) cs ∙ ap (pasted o w) (sym left) in
          record {
            rest = k.rest;
            range = k.range;
            room = omega (arith, m.room, left-length, x.next);
            long = l ∙ m.long;
            whole = λ os r. (omega (arith, (m.whole os r).0, left-length, x.next), f ∙ (m.whole os r).1);
          }

-- Laws of canonicalize_tu: its outcomes.
use Prim.Native.Nat.{ℕ, ◌+◌, ◌≤◌, ◌<◌}
use native.Mathlib.Omega.{arith}
use mathlib.Core.Path.{◌≡◌, refl, sym, ap, ◌∙◌}
use mathlib.Core.List.{List, [], ◌∷◌, ◌++◌}
use mathlib.Core.Bool.{Bool, true, false}
use lib.ListN.{length, drop, length-append}
use borrow.Author.Tests.{le-leb, lt-leb, leb-true}
use Rattle.bitio.specs.Parse.{Answer, refused, accepted, onto}
use Rattle.bitio.specs.Lent.{pasted, Wrote}
use Rattle.bitio.proofs.LentLaws.{wrote-length, wrote-more}
use Rattle.bitio.proofs.ParseLaws.{and_both}
use Rattle.obu.specs.Obu.{Obu, obus}
use Rattle.obu.specs.Unit.{stray_in, of_unit}
use Rattle.obu.proofs.ObuLaws.{obus-item}
use Rattle.obu.specs.Place.{Place, no_more, wrong, lies, obu_place}
use Rattle.obu.proofs.PlaceLaws.{Placed, is-placed, walk_start, walk_end, walk-stop}
use Rattle.container.specs.Stream.{others, behind_obu}
use Rattle.packets.specs.Packets.{canonical, canonical_of}
use Rattle.bitio.specs.Limits.{limit, capped}
use Rattle.container.specs.Limits.{bytes_room, fits}
use Rattle.container.specs.Units.{count_of, out_after}
use Rattle.packets.specs.Packets.{canonical_at}
use Rattle.container.specs.code.Ranges.{kept_bytes, Range, Measured, Roomy, WroteKept}
use Rattle.container.proofs.StreamLaws.{bytes-append}
use Rattle.container.proofs.RangeLaws.{placed-step, range-one, range-from}
use Rattle.packets.proofs.RoomLaws.{fits-capped}

-- ---- the first OBU

-- m is where the first OBU ends, if the unit parses and has one
abbrev Split : List ℕ → ℕ → Type 0
Split u m = (o : Obu) (os : List Obu) → obus u ≡ accepted (o ∷ os) → Range u 0 m (o ∷ []) × Range u m (length u) os

split_at : {s : List ℕ} {o : Obu} {a b : ℕ} → Placed s 0 o a b → Split s b
split_at {s} {o} {a} {b} p x os q = go (obus (drop b s)) refl (sym (obus-item s o (drop b s) p.head) ∙ q)
  where
    go : (y : Answer (List Obu)) → obus (drop b s) ≡ y → onto o y ≡ accepted (x ∷ os) → Range s 0 b (x ∷ []) × Range s b (length s) os
    go (refused k) e f = let z : ◌≡◌ {A = ℕ} 0 1 = cc in absurd (omega arith)
    go (accepted l) e f =
        let i : o ≡ x = cc in
        let j : l ≡ os = cc in
        (rw (← i) (range-one (placed-step p)), range-from s p.within (e ∙ ap accepted j))

-- a unit that parses and has an OBU has one at its start
pub split-first : (s : List ℕ) → Split s (behind_obu 0 (obu_place s 0))
split-first s = go (obu_place s 0) refl
  where
    none : (x : Answer (List Obu)) → obus s ≡ x → ((o : Obu) (os : List Obu) → x ≡ accepted (o ∷ os) → ⊥) → Split s 0
    none x e n o os q = absurd (n o os (sym e ∙ q))

    go : (x : Place) → obu_place s 0 ≡ x → Split s (behind_obu 0 x)
    go no_more e = none (accepted []) (walk_end (walk_start s) e) (λ o os q. let z : ◌≡◌ {A = ℕ} 0 1 = cc in omega arith)
    go (wrong k) e = none (refused k) (walk-stop (walk_start s) k e) (λ o os q. let z : ◌≡◌ {A = ℕ} 0 1 = cc in omega arith)
    go (lies t x a b) e = split_at (is-placed s 0 e).placed

-- ---- a clean unit, and one with a stray delimiter

pub clean-same : (u : List ℕ) → of_unit false stray_in (obus u) ≡ false → canonical u ≡ u
unfolding canonical
clean-same u e = go (obus u) e
  where
    go : (x : Answer (List Obu)) → of_unit false stray_in x ≡ false → canonical_of u x ≡ u
    go (refused k) e = refl
    go (accepted os) e = rw e

pub record Stray (u : List ℕ) : Type 0 where
  pub o : Obu
  pub os : List Obu
  pub reads : obus u ≡ accepted (o ∷ os)
  pub same : canonical u ≡ kept_bytes true (o ∷ []) ++ kept_bytes false os

pub stray : (u : List ℕ) → of_unit false stray_in (obus u) ≡ true → Stray u
unfolding canonical
stray u e = go (obus u) refl e
  where
    go : (x : Answer (List Obu)) → obus u ≡ x → of_unit false stray_in x ≡ true → Stray u
    go (refused k) p e = let z : ◌≡◌ {A = ℕ} 0 1 = cc in absurd (omega arith)
    go (accepted []) p e = let z : ◌≡◌ {A = ℕ} 0 1 = cc in absurd (omega arith)
    go (accepted (o ∷ os)) p e =
        record { o = o; os = os; reads = p; same = rw (p, e) (bytes-append (o ∷ []) (others os)) }

-- the unit's first OBU, which ends at mid, and the others
pub record Parted (u : List ℕ) (mid : ℕ) : Type 0 where
  pub it : Stray u
  pub front : Range u 0 mid (it.o ∷ [])
  pub back : Range u mid (length u) it.os

pub parted : (u : List ℕ) {mid : ℕ} → of_unit false stray_in (obus u) ≡ true → mid ≡ behind_obu 0 (obu_place u 0) → Parted u mid
parted u e m =
    let t = stray u e in
    let r = split-first u t.o t.os t.reads in
    rw m (record { it = t; front = r.0; back = r.1 })

-- what is written
abbrev pub clean : {u : List ℕ} {mid : ℕ} → Parted u mid → List ℕ
clean p = kept_bytes true (p.it.o ∷ []) ++ kept_bytes false p.it.os

module _ {u : List ℕ} {mid : ℕ} (p : Parted u mid) where
  abbrev first : List ℕ
  first = kept_bytes true (p.it.o ∷ [])

  abbrev others_bytes : List ℕ
  others_bytes = kept_bytes false p.it.os

  long : length (clean p) ≡ length first + length others_bytes
  long = length-append first others_bytes

  pub clean-length : {m n k : ℕ} → Measured u 0 mid true m → Measured u mid (length u) false n → k ≡ capped (m + n) → k ≡ capped (length (clean p))
  clean-length x y e = omega (arith, x (p.it.o ∷ []) p.front, y p.it.os p.back, long)

  -- it has room where its count has
  pub clean-fits : {k : ℕ} (d : List ℕ) {b : Bool} → k ≡ capped (length (clean p)) → fits k 0 (bytes_room (length d)) ≡ b → fits (length (clean p)) 0 (bytes_room (length d)) ≡ b
  clean-fits d e f = sym (fits-capped (length (clean p)) 0 (bytes_room (length d))) ∙ ap (λ n. fits n 0 (bytes_room (length d))) (sym e) ∙ f

  module _ (d : List ℕ) (f : fits (length (clean p)) 0 (bytes_room (length d)) ≡ true) where
    -- and then it is short enough, and not longer than lent memory
    pub clean-small : (length (clean p) ≤ limit) × (length (clean p) ≤ length d)
    clean-small = let (a, b) = and_both _ _ f in (leb-true _ _ a, leb-true _ _ (and_both _ _ b).0)

    pub first-roomy : Roomy u 0 mid true d 0
    first-roomy = record { os = p.it.o ∷ []; range = p.front; room = omega (arith, clean-small, long) }

    module _ {o : List ℕ} {w : ℕ} (x : WroteKept u 0 mid true d 0 w o) where
      put : Wrote d 0 first w o
      put = x (p.it.o ∷ []) p.front

      pub others-roomy : Roomy u mid (length u) false o w
      others-roomy = record { os = p.it.os; range = p.back; room = omega (arith, clean-small, long, put.next, wrote-length put (omega (arith, clean-small, long))) }

      pub clean-wrote : {q : List ℕ} {v : ℕ} → WroteKept u mid (length u) false o w v q → Wrote d 0 (clean p) v q
      clean-wrote y = wrote-more put (omega arith) (y p.it.os p.back)

-- ---- the outcomes

module _ (u d : List ℕ) where
  pub canon-long : {k : ℕ} → (limit < length u) × (k ≡ 34) → (refused k ≡ count_of (canonical_at (bytes_room (length d)) u)) × (d ≡ out_after (canonical_at (bytes_room (length d)) u) d)
  unfolding canonical_at
  canon-long (l, q) = let e = lt-leb (length u) limit l in (rw (e, q), rw e)

  module _ (short : length u ≤ limit) (bs : List ℕ) (same : canonical u ≡ bs) where
    pub canon-roomless : fits (length bs) 0 (bytes_room (length d)) ≡ false → (refused 35 ≡ count_of (canonical_at (bytes_room (length d)) u)) × (d ≡ out_after (canonical_at (bytes_room (length d)) u) d)
    unfolding canonical_at
    canon-roomless f = let e = le-leb (length u) limit short in (rw (e, same, f), rw (e, same, f))

    module _ (fit : length bs ≤ limit) where
      pub canon-full : length d < length bs → (refused 35 ≡ count_of (canonical_at (bytes_room (length d)) u)) × (d ≡ out_after (canonical_at (bytes_room (length d)) u) d)
      canon-full l = canon-roomless (rw (le-leb (length bs) limit fit, lt-leb (length bs) (length d) l))

      pub canon-there : length bs ≤ length d → {n : ℕ} {o : List ℕ} → n ≡ length bs → o ≡ pasted d 0 bs
          → (accepted n ≡ count_of (canonical_at (bytes_room (length d)) u)) × (o ≡ out_after (canonical_at (bytes_room (length d)) u) d)
      unfolding canonical_at
      canon-there l q r =
          let e = le-leb (length u) limit short in
          let f = le-leb (length bs) limit fit in
          let g = le-leb (length bs) (length d) l in
          (rw (e, same, f, g) (ap accepted q), rw (e, same, f, g) r)

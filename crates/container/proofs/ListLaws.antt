-- Laws of lists of units in lent memory, and of the stream written from them.
use Prim.Native.Nat.{ℕ, zero, suc, ◌+◌, ◌-◌, ◌≤◌, ◌<◌}
use native.Mathlib.Numerals.{add-one}
use native.Mathlib.Omega.{arith}
use mathlib.Core.Path.{◌≡◌, refl, sym, ap, ◌∙◌}
use mathlib.Core.List.{List, [], ◌∷◌, ◌++◌}
use mathlib.Core.Bool.{Bool, true, false, cond as pick, ◌&&◌, and-false}
use lib.ListN.{length, get_or, take, drop, length-drop, take-append-drop, drop_of_length-le, length-append, get_or-eq_default}
use lib.Seq.{drop-cons, drop-drop}
use lib.Dec.{leb, eqb}
use borrow.Author.Tests.{le-leb, lt-leb, leb-true, leb-false, eqb-true, eq-eqb, ne_eqb}
use Rattle.std.specs.List.Sorted.{IsNonDecreasing}
use Rattle.bitio.specs.Every.{Every}
use Rattle.bitio.specs.Every.Every.{nothing, also}
use Rattle.bitio.specs.Parse.{Answer, refused, accepted, onto, and_next}
use Rattle.bitio.specs.Lent.{span, pasted}
use Rattle.bitio.proofs.ParseLaws.{length_none, onto-is, and_both}
use Rattle.obu.specs.Place.{part, part_in}
use Rattle.obu.proofs.PlaceLaws.{part-short}
use Rattle.container.specs.Stream.{flat, stream_bytes}
use Rattle.bitio.specs.Limits.{limit}
use Rattle.container.specs.Limits.{Room, bytes_room}
use Rattle.container.specs.Units.{ends_of, units_from, units_at, count_of, out_after}
use Rattle.container.specs.Container.{stream, write_at}
use Rattle.container.specs.declared.lists.Units.{Units}
use Rattle.container.specs.Lists.{listed_from, listed, unit_of, accepts}

-- ---- what a list holds

-- an end for each unit
pub ends-length : (at : ℕ) (us : List (List ℕ)) → length (ends_of at us) ≡ length us
unfolding ends_of
ends-length at [] = refl
ends-length at (u ∷ us) = ap suc (ends-length (at + length u) us)

-- one unit more, one end more
pub ends_more : (at : ℕ) (us : List (List ℕ)) (u : List ℕ) → ends_of at (us ++ (u ∷ [])) ≡ ends_of at us ++ ((at + length (stream_bytes us) + length u) ∷ [])
unfolding ends_of stream_bytes flat
ends_more at [] u = let k : at + 0 + length u ≡ at + length u = omega arith in rw k
ends_more at (v ∷ us) u =
    let k : at + length (v ++ flat us) + length u ≡ at + length v + length (flat us) + length u = omega (arith, length-append v (flat us)) in
    rw k (ap (λ l. (at + length v) ∷ l) (ends_more (at + length v) us u))

from_bytes : (es : List ℕ) (at : ℕ) (s : List ℕ) (us : List (List ℕ)) → units_from at s es ≡ accepted us → stream_bytes us ≡ s
unfolding units_from stream_bytes flat
from_bytes [] at s us e = go (eqb (length s) 0) refl e
  where
    go : (b : Bool) → eqb (length s) 0 ≡ b → pick b (accepted []) (refused 36) ≡ accepted us → flat us ≡ s
    go true q e = let n : us ≡ [] = cc in rw n (sym (length_none s (eqb-true (length s) 0 q)))
    go false q e = let z : ◌≡◌ {A = ℕ} 0 1 = cc in absurd (omega arith)
from_bytes (x ∷ es) at s us e = go (leb at x && leb (x - at) (length s)) e (from_bytes es x (drop (x - at) s))
  where
    go : (b : Bool) → pick b (onto (take (x - at) s) (units_from x (drop (x - at) s) es)) (refused 36) ≡ accepted us
        → ((vs : List (List ℕ)) → units_from x (drop (x - at) s) es ≡ accepted vs → flat vs ≡ drop (x - at) s) → flat us ≡ s
    go true e ih =
        let m = onto-is (take (x - at) s) (units_from x (drop (x - at) s) es) us e in
        rw m.2 (ap (λ l. take (x - at) s ++ l) (ih m.0 m.1) ∙ take-append-drop (x - at) s)
    go false e ih = let z : ◌≡◌ {A = ℕ} 0 1 = cc in absurd (omega arith)

-- the units of a list, one behind the other, are its bytes
pub units-bytes : (s es : List ℕ) (us : List (List ℕ)) → units_at s es ≡ accepted us → stream_bytes us ≡ s
units-bytes s es us e = from_bytes es 0 s us e

pub units-some : (s es : List ℕ) → accepts (units_at s es) ≡ true → (us : List (List ℕ)) × (units_at s es ≡ accepted us)
units-some s es e = go (units_at s es) e
  where
    go : (x : Answer (List (List ℕ))) → accepts x ≡ true → (us : List (List ℕ)) × (x ≡ accepted us)
    go (refused k) e = let z : ◌≡◌ {A = ℕ} 0 1 = cc in absurd (omega arith)
    go (accepted us) e = (us, refl)

-- ---- each unit by its index

-- ends from `at` on never fall, and the last is n
unfoldable pub rising : ℕ → ℕ → List ℕ → Bool
rising at n [] = eqb at n
rising at n (e ∷ es) = leb at e && rising e n es

rising-most : (at n : ℕ) (es : List ℕ) → rising at n es ≡ true → at ≤ n
unfolding rising
rising-most at n [] e = let k = eqb-true at n e in omega arith
rising-most at n (x ∷ es) e = go (leb at x) refl (rising-most x n es) e
  where
    go : (b : Bool) → leb at x ≡ b → (rising x n es ≡ true → x ≤ n) → (b && rising x n es) ≡ true → at ≤ n
    go true p f e = let h = f e in omega (arith, leb-true at x p)
    go false p f e = let z : ◌≡◌ {A = ℕ} 0 1 = cc in absurd (omega arith)

abbrev given : ℕ → List ℕ → List ℕ → Answer (List (List ℕ))
given at s es = pick (rising at (length s) es) (accepted (listed_from at s es)) (refused 36)

onto-given : (u : List ℕ) (b : Bool) (l : List (List ℕ)) → onto u (pick b (accepted l) (refused 36)) ≡ pick b (accepted (u ∷ l)) (refused 36)
onto-given u true l = refl
onto-given u false l = refl

-- the units that ends give, or 36
units-given : (at : ℕ) (s es : List ℕ) → at ≤ length s → units_from at (drop at s) es ≡ given at s es
unfolding units_from rising listed_from part span
units-given at s [] h = go (eqb at (length s)) refl
  where
    go : (b : Bool) → eqb at (length s) ≡ b → ◌≡◌ {A = Answer (List (List ℕ))} (pick (eqb (length (drop at s)) 0) (accepted []) (refused 36)) (pick b (accepted []) (refused 36))
    go true e = let k = eqb-true at (length s) e in rw (eq-eqb (length (drop at s)) 0 (omega (arith, length-drop at s)))
    go false e =
        rw (ne_eqb (length (drop at s)) 0 (λ z. let y : ◌≡◌ {A = Bool} true false = sym (eq-eqb at (length s) (omega (arith, length-drop at s))) ∙ e in let w : ◌≡◌ {A = ℕ} 0 1 = cc in omega arith))
units-given at s (e ∷ es) h = go (leb at e) (leb e (length s)) refl refl (units-given e s es)
  where
    d : length (drop at s) ≡ length s - at
    d = length-drop at s

    go : (a b : Bool) → leb at e ≡ a → leb e (length s) ≡ b → (e ≤ length s → units_from e (drop e s) es ≡ given e s es)
        → pick (a && leb (e - at) (length (drop at s))) (onto (take (e - at) (drop at s)) (units_from e (drop (e - at) (drop at s)) es)) (refused 36)
        ≡ pick (a && rising e (length s) es) (accepted (pick a (pick b (take (e - at) (drop at s)) []) [] ∷ listed_from e s es)) (refused 36)
    go false b p q f = refl
    go true true p q f =
        let x = leb-true at e p in
        let y = leb-true e (length s) q in
        let k : at + (e - at) ≡ e = omega arith in
        rw (le-leb (e - at) (length (drop at s)) (omega (arith, d)), drop-drop (e - at) at s, k, f y) (onto-given (take (e - at) (drop at s)) (rising e (length s) es) (listed_from e s es))
    go true false p q f =
        let x = leb-true at e p in
        let y = leb-false e (length s) q in
        rw (lt-leb (e - at) (length (drop at s)) (omega (arith, d))) (sym (never (rising e (length s) es) refl))
      where
        never : (r : Bool) → rising e (length s) es ≡ r → pick r (accepted ([] ∷ listed_from e s es)) (refused 36) ≡ refused 36
        never true w = let m = rising-most e (length s) es w in absurd (omega (arith, leb-false e (length s) q))
        never false w = refl

-- a list's units
pub units-listed : (s es : List ℕ) → accepts (units_at s es) ≡ true → units_at s es ≡ accepted (listed s es)
units-listed s es e = let g = units-given 0 s es (omega arith) in g ∙ go (rising 0 (length s) es) (sym (ap accepts g) ∙ e)
  where
    go : (b : Bool) → accepts (pick b (accepted (listed s es)) (refused 36)) ≡ true → pick b (accepted (listed s es)) (refused 36) ≡ accepted (listed s es)
    go true q = refl
    go false q = let z : ◌≡◌ {A = ℕ} 0 1 = cc in absurd (omega arith)

pub listed-length : (at : ℕ) (s es : List ℕ) → length (listed_from at s es) ≡ length es
unfolding listed_from
listed-length at s [] = refl
listed-length at s (e ∷ es) = ap suc (listed-length e s es)

part-zero : (s : List ℕ) (a : ℕ) → part s a 0 ≡ []
unfolding part span
part-zero s a = go (leb a 0)
  where
    go : (b : Bool) → pick b (pick (leb 0 (length s)) (take (0 - a) (drop a s)) []) [] ≡ []
    go true = let k : 0 - a ≡ 0 = omega arith in rw (k, le-leb 0 (length s) (omega arith))
    go false = refl

nothing-at : {A : Type 0} (i : ℕ) (d : A) → get_or [] i d ≡ d
nothing-at zero d = refl
nothing-at (suc i) d = refl

-- a unit is the bytes from where it starts to where it ends
listed-part-from : (at : ℕ) (s es : List ℕ) (i : ℕ) → part s (get_or (at ∷ es) i 0) (get_or es i 0) ≡ get_or (listed_from at s es) i []
unfolding listed_from
listed-part-from at s [] i = rw (nothing-at {A = ℕ} i 0) (part-zero s (get_or (at ∷ []) i 0)) ∙ sym (nothing-at i [])
listed-part-from at s (e ∷ es) zero = refl
listed-part-from at s (e ∷ es) (suc i) = listed-part-from e s es i

pub listed-part : (s es : List ℕ) (i : ℕ) → part_in s es i ≡ unit_of s es i
listed-part s es i = listed-part-from 0 s es i

-- behind the last there is none
pub listed-out : (s es : List ℕ) (i : ℕ) → length es ≤ i → unit_of s es i ≡ []
listed-out s es i h = get_or-eq_default (listed s es) [] (omega (arith, listed-length 0 s es))

-- no unit is longer than all bytes
pub unit-short : (s es : List ℕ) (i : ℕ) → length (unit_of s es i) ≤ length s
unit-short s es i = rw (← listed-part s es i) (part-short s (get_or (0 ∷ es) i 0) (get_or es i 0))

pub listed-short : (at : ℕ) (s es : List ℕ) → Every (λ u. length u ≤ length s) (listed_from at s es)
unfolding listed_from
listed-short at s [] = nothing
listed-short at s (e ∷ es) = also (part-short s at e) (listed-short e s es)

-- ---- the check

rising-within : (at n : ℕ) (es : List ℕ) (i : ℕ) → rising at n es ≡ true → i < length es → (get_or (at ∷ es) i 0 ≤ get_or es i 0) × (get_or es i 0 ≤ n)
unfolding rising
rising-within at n [] i e h = absurd (omega arith)
rising-within at n (x ∷ es) zero e h = let (a, b) = and_both (leb at x) (rising x n es) e in (leb-true at x a, rising-most x n es b)
rising-within at n (x ∷ es) (suc i) e h = rising-within x n es i (and_both (leb at x) (rising x n es) e).1 (omega arith)

-- ends that do not fall, from one that is no more than the first
rising-up : (at n : ℕ) (es : List ℕ) → IsNonDecreasing es → (0 < length es → at ≤ get_or es 0 0) → get_or (at ∷ es) (length es) 0 ≡ n → rising at n es ≡ true
unfolding rising
rising-up at n [] f h l = eq-eqb at n l
rising-up at n (e ∷ es) f h l =
    rw (le-leb at e (h (omega arith))) (rising-up e n es (λ i j d a b. f (suc i) (suc j) d (omega arith) (omega arith)) (λ b. f 0 1 0 (omega arith) (omega arith)) l)

-- an end that falls
rising-falls : (at n : ℕ) (es : List ℕ) (k : ℕ) → suc k < length es → get_or es (suc k) 0 < get_or es k 0 → rising at n es ≡ false
unfolding rising
rising-falls at n [] k b l = absurd (omega arith)
rising-falls at n (e ∷ []) k b l = absurd (omega arith)
rising-falls at n (e ∷ (x ∷ es)) zero b l = rw (lt-leb e x l) (and-false (leb at e))
rising-falls at n (e ∷ (x ∷ es)) (suc k) b l = rw (rising-falls e n (x ∷ es) k (omega arith) l) (and-false (leb at e))

rising-last : (at n : ℕ) (es : List ℕ) → rising at n es ≡ true → get_or (at ∷ es) (length es) 0 ≡ n
unfolding rising
rising-last at n [] e = eqb-true at n e
rising-last at n (x ∷ es) e = rising-last x n es (and_both (leb at x) (rising x n es) e).1

module _ (s es : List ℕ) where
  there : units_at s es ≡ given 0 s es
  there = units-given 0 s es (omega arith)

  not-rising : rising 0 (length s) es ≡ false → units_at s es ≡ refused 36
  not-rising e = there ∙ rw e

  -- for whoever knows the order of the ends and the last of them
  pub list-good : IsNonDecreasing es → get_or (0 ∷ es) (length es) 0 ≡ length s → accepts (units_at s es) ≡ true
  list-good f l = rw (there, rising-up 0 (length s) es f (λ b. omega arith) l)

  pub list-falls : (k : ℕ) → k + 1 < length es → get_or es (k + 1) 0 < get_or es k 0 → units_at s es ≡ refused 36
  list-falls k b l = not-rising (rising-falls 0 (length s) es k (omega arith) (rw add-one at l))

  pub list-other : (get_or (0 ∷ es) (length es) 0 ≡ length s → ⊥) → units_at s es ≡ refused 36
  list-other n = not-rising (go (rising 0 (length s) es) refl)
    where
      go : (b : Bool) → rising 0 (length s) es ≡ b → b ≡ false
      go true e = absurd (n (rising-last 0 (length s) es e))
      go false e = refl

  -- a list that is none is refused with 36
  pub units-refused : accepts (units_at s es) ≡ false → units_at s es ≡ refused 36
  units-refused e = there ∙ go (rising 0 (length s) es) (sym (ap accepts there) ∙ e)
    where
      go : (b : Bool) → accepts (pick b (accepted (listed s es)) (refused 36)) ≡ false → pick b (accepted (listed s es)) (refused 36) ≡ refused 36
      go true q = let z : ◌≡◌ {A = ℕ} 0 1 = cc in absurd (omega arith)
      go false q = refl

  -- each end lies behind the one before it, and within the bytes
  pub list-within : (i : ℕ) → accepts (units_at s es) ≡ true → i < length es → (get_or (0 ∷ es) i 0 ≤ get_or es i 0) × (get_or es i 0 ≤ length s)
  list-within i a h = go (rising 0 (length s) es) refl (sym (ap accepts there) ∙ a)
    where
      go : (b : Bool) → rising 0 (length s) es ≡ b → accepts (pick b (accepted (listed s es)) (refused 36)) ≡ true
          → (get_or (0 ∷ es) i 0 ≤ get_or es i 0) × (get_or es i 0 ≤ length s)
      go true r q = rising-within 0 (length s) es i r h
      go false r q = let z : ◌≡◌ {A = ℕ} 0 1 = cc in absurd (omega arith)

  -- so that a unit is a slice of them
  pub list-slice : (i : ℕ) → accepts (units_at s es) ≡ true → i < length es → take (get_or es i 0 - get_or (0 ∷ es) i 0) (drop (get_or (0 ∷ es) i 0) s) ≡ unit_of s es i
  unfolding part span
  list-slice i a h =
      let w = list-within i a h in
      let e : part s (get_or (0 ∷ es) i 0) (get_or es i 0) ≡ take (get_or es i 0 - get_or (0 ∷ es) i 0) (drop (get_or (0 ∷ es) i 0) s) =
      rw (le-leb (get_or (0 ∷ es) i 0) (get_or es i 0) w.0, le-leb (get_or es i 0) (length s) w.1) in
      sym e ∙ listed-part s es i

-- the ends before i never fall, and the last of them is at: those behind decide
pub record Checking (s es : List ℕ) (at i : ℕ) : Type 0 where
  pub within : at ≤ length s
  pub same : rising 0 (length s) es ≡ rising at (length s) (drop i es)

pub checking-start : {s es : List ℕ} → Checking s es 0 0
checking-start = record { within = omega arith; same = refl }

module _ {s es : List ℕ} {at i : ℕ} (c : Checking s es at i) where
  ending : length es ≤ i → rising 0 (length s) es ≡ eqb at (length s)
  unfolding rising
  ending h = c.same ∙ rw (drop_of_length-le es h)

  pub checking-other : length es ≤ i → (at ≡ length s → ⊥) → units_at s es ≡ refused 36
  checking-other h n = not-rising s es (ending h ∙ ne_eqb at (length s) n)

  pub checking-good : length es ≤ i → at ≡ length s → accepts (units_at s es) ≡ true
  checking-good h e = rw (there s es, ending h, eq-eqb at (length s) e)

  module _ (h : i < length es) where
    abbrev e : ℕ
    e = get_or es i 0

    turn : rising 0 (length s) es ≡ (leb at e && rising e (length s) (drop (suc i) es))
    unfolding rising
    turn = c.same ∙ rw (drop-cons es i 0 h)

    pub checking-falls : e < at → units_at s es ≡ refused 36
    checking-falls l = not-rising s es (turn ∙ rw (lt-leb at e l))

    pub checking-passes : length s < e → units_at s es ≡ refused 36
    checking-passes l = not-rising s es (turn ∙ rw (over (rising e (length s) (drop (suc i) es)) refl) (and-false (leb at e)))
      where
        over : (b : Bool) → rising e (length s) (drop (suc i) es) ≡ b → rising e (length s) (drop (suc i) es) ≡ false
        over true r = let m = rising-most e (length s) (drop (suc i) es) r in absurd (omega arith)
        over false r = r

    pub checking-next : at ≤ e → e ≤ length s → Checking s es e (i + 1)
    checking-next l m = record { within = m; same = rw (turn, le-leb at e l, add-one) }

-- and what they are where a list was made of them
pub list-listed : (x : Units) → units_at x.bytes.now x.ends.now ≡ accepted (listed x.bytes.now x.ends.now)
list-listed x = units-listed x.bytes.now x.ends.now x.is_list

pub list-is : {s es : List ℕ} (x : Units) → (x.bytes.now ≡ s) × (x.ends.now ≡ es) → accepts (units_at s es) ≡ true
list-is x (p, q) = rw (p, q) at x.is_list

-- ---- the stream written

module _ (s es d : List ℕ) where
  abbrev room : Room
  room = bytes_room (length d)

  abbrev result : Answer (List ℕ)
  result = write_at stream room s es

  abbrev WriteRefuses : ℕ → Type 0
  WriteRefuses k = (refused k ≡ count_of result) × (d ≡ out_after result d)

  refuses : {k : ℕ} → result ≡ refused k → WriteRefuses k
  refuses q = (sym (ap (λ x. count_of x) q), sym (ap (λ x. out_after x d) q))

  pub write-long : {k : ℕ} → (limit < length s) × (k ≡ 34) → WriteRefuses k
  unfolding write_at and_next
  write-long (l, q) = refuses (rw (lt-leb (length s) limit l, q))

  module _ (short : length s ≤ limit) where
    pub write-none : {k : ℕ} → units_at s es ≡ refused k → WriteRefuses k
    unfolding write_at and_next
    write-none n = refuses (rw (le-leb (length s) limit short, n))

    module _ (is : accepts (units_at s es) ≡ true) where
      pub write-full : length d < length s → WriteRefuses 35
      unfolding write_at and_next
      write-full l =
          let (us, q) = units-some s es is in
          refuses (rw (le-leb (length s) limit short, q, units-bytes s es us q, lt-leb (length s) (length d) l) (rw (le-leb (length s) limit short)))

      pub write_done : {o : List ℕ} → length s ≤ length d → o ≡ pasted d 0 s → (accepted (length s) ≡ count_of result) × (o ≡ out_after result d)
      unfolding write_at and_next
      write_done {o} l w =
          let (us, q) = units-some s es is in
          let r : result ≡ accepted s = rw (le-leb (length s) limit short, q, units-bytes s es us q, le-leb (length s) (length d) l) (rw (le-leb (length s) limit short)) in
          (sym (ap (λ x. count_of x) r), w ∙ sym (ap (λ x. out_after x d) r))

-- Laws of the questions on a unit: one OBU more.
use Prim.Native.Nat.{ℕ, suc, ◌-◌, ◌≤◌}
use native.Mathlib.Omega.{arith}
use mathlib.Core.Path.{◌≡◌, refl, sym, ap, ◌∙◌}
use mathlib.Core.List.{List, [], ◌∷◌, ◌++◌, map, append-nil}
use mathlib.Core.Option
use mathlib.Core.Option.{Option, none, some, or_else}
use mathlib.Core.Bool.{Bool, true, false, cond as pick, not, ◌||◌, ◌&&◌}
use lib.Dec.{leb, leb-suc-suc}
use lib.ListN.{length, drop, length-drop, drop_of_length-le}
use borrow.Author.Tests.{le-leb}
use Rattle.bitio.specs.Parse.{Answer, refused, accepted, answer, Head, stop, item, within, many, onto}
use Rattle.bitio.proofs.ParseLaws.{Leaves, Shrinks, many-map, many-item, many-stop, many-nil}
use Rattle.obu.specs.Obu.{Obu, passes, head_obu, obus_of, obus}
use Rattle.obu.specs.Place.{obu_place, no_more, wrong}
use Rattle.std.specs.Prelude.{Option as Optional, Some, None, Ok, is_none}
use Rattle.obu.specs.declared.reader.Obu.{Obu as Found}
use Rattle.obu.specs.Unit.{is_delimiter, count, has, first_payload, last_payload, Located, located, located_obus, sought, sought_says, payload_found, stray_in, of_unit}
use Rattle.obu.proofs.ObuLaws.{obu-shrinks, obus-item, infront, infront-next, infront-nil}
use Rattle.obu.proofs.PlaceLaws.{Placed, is-wrong, walk_start, walk_end, walk-stop}

module _ (p : Obu → Bool) where
  pub count_next : (os : List Obu) (o : Obu) → count p (os ++ (o ∷ [])) ≡ pick (p o) (suc (count p os)) (count p os)
  unfolding count
  count_next [] o = refl
  count_next (a ∷ os) o = rw (count_next os o) (go (p a) (p o))
    where
      n : ℕ
      n = count p os

      go : (s t : Bool) → pick s (suc (pick t (suc n) n)) (pick t (suc n) n) ≡ pick t (suc (pick s (suc n) n)) (pick s (suc n) n)
      go true true = refl
      go true false = refl
      go false true = refl
      go false false = refl

  -- to have one is to have at least one
  pub has-count : (os : List Obu) → leb 1 (count p os) ≡ has p os
  unfolding has count
  has-count [] = refl
  has-count (a ∷ os) = go (p a) (has-count os)
    where
      go : (t : Bool) → leb 1 (count p os) ≡ has p os → leb 1 (pick t (suc (count p os)) (count p os)) ≡ (t || has p os)
      go true e = le-leb 1 (suc (count p os)) (omega arith)
      go false e = e

-- ---- OBUs with where they lie

abbrev pub obu_at : Located → Obu
obu_at o = o.obu

-- the OBU at the head of l, in a unit of n bytes
abbrev head_at : ℕ → List ℕ → Head Located
head_at n l = located n (head_obu l)

same-obus : (n : ℕ) (x : Head Obu) → within (located n x) (λ o. accepted (obu_at o)) ≡ x
same-obus n (stop k) = refl
same-obus n (item o r) = refl

obus-located : (s : List ℕ) → answer (map obu_at) (located_obus s) ≡ obus s
unfolding located_obus obus_of
obus-located s = many-map obu_at (head_at (length s)) head_obu (λ l. same-obus (length s) (head_obu l)) s

at-shrinks : (n : ℕ) → Shrinks (head_at n)
at-shrinks n s = go (head_obu s) (obu-shrinks passes s)
  where
    go : (x : Head Obu) → Leaves (length s) x → Leaves (length s) (located n x)
    go (stop k) l = tt
    go (item o r) l = l

-- the OBUs of s are those of the front, and then those from `at` on
pub record Searched (s : List ℕ) (at : ℕ) (front : List Located) : Type 0 where
  pub whole : located_obus s ≡ infront front (many (head_at (length s)) (drop at s))

pub search-start : (s : List ℕ) → Searched s 0 []
unfolding located_obus
search-start s = record { whole = infront-nil (located_obus s) }

module _ {s : List ℕ} {at : ℕ} {front : List Located} (w : Searched s at front) where
  pub search-next : {o : Obu} {a b : ℕ} → Placed s at o a b → Searched s b (front ++ (record { obu = o; start = a; end = b } ∷ []))
  search-next {o} {a} {b} p =
      let n = length s in
      let x : Located = record { obu = o; start = a; end = b } in
      let j : length s - length (drop b s) ≡ b = omega (arith, length-drop b s, p.within) in
      let k : b - length o.payload ≡ a = omega (arith, p.size, p.ends) in
      let h : head_at n (drop at s) ≡ item x (drop b s) = rw (p.head, j, k) in
      record { whole = w.whole ∙ ap (infront front) (many-item (head_at n) (at-shrinks n) (drop at s) x (drop b s) h) ∙ infront-next front x (many (head_at n) (drop b s)) }

  pub search-end : length s ≤ at → located_obus s ≡ accepted front
  search-end l =
      w.whole ∙ ap (λ (l : List ℕ). infront front (many (head_at (length s)) l)) (drop_of_length-le s l) ∙ ap (infront front) (many-nil (head_at (length s)))
      ∙ ap accepted (append-nil front)

  -- a refusal there is the whole's
  pub search-stop : {n : ℕ} (f : List Located → Option Located) → obu_place s at ≡ wrong n → refused n ≡ answer f (located_obus s)
  search-stop {n} f e =
      let (l, q) = is-wrong s at n e in
      let h : head_at (length s) (drop at s) ≡ stop n = rw q in
      sym (ap (answer f) (w.whole ∙ ap (infront front) (many-stop (head_at (length s)) (at-shrinks (length s)) (drop at s) n (omega (arith, length-drop at s)) h)))

-- ---- the OBU sought

abbrev pub is_some : {A : Type 0} → Option A → Bool
is_some none = false
is_some (some a) = true

module _ {A : Type 0} (last : Bool) (p : A → Bool) where
  -- one more takes the place of what is kept, or not
  pub sought-next : (l : List A) (x : A) → sought last p (l ++ (x ∷ [])) ≡ pick ((last || not (is_some (sought last p l))) && p x) (some x) (sought last p l)
  unfolding sought or_else
  sought-next [] x = go last (p x)
    where
      go : (n t : Bool) → pick n (or_else none (pick t (some x) none)) (or_else (pick t (some x) none) none) ≡ pick ((n || true) && t) (some x) none
      go true t = refl
      go false true = refl
      go false false = refl
  sought-next (a ∷ l) x = rw (sought-next l x) (go last (p a) (p x) (sought last p l))
    where
      go : (n s t : Bool) (y : Option A)
          → (let z = pick ((n || not (is_some y)) && t) (some x) y in
          let w = pick n (or_else y (pick s (some a) none)) (or_else (pick s (some a) none) y) in
          pick n (or_else z (pick s (some a) none)) (or_else (pick s (some a) none) z) ≡ pick ((n || not (is_some w)) && t) (some x) w)
      go true s true y = refl
      go true s false y = refl
      go false true t y = refl
      go false false t y = refl

-- something is kept where something was sought and found
pub kept_none : (s : List ℕ) (x : Optional Found) (y : Option Located) → sought_says s (Ok x) ≡ accepted y → is_none x ≡ not (is_some y)
kept_none s None none e = refl
kept_none s (Some o) (some l) e = refl
kept_none s None (some l) e = cc
kept_none s (Some o) none e = cc

-- one OBU more is kept where the code's test says so
pub sought_kept : (s : List ℕ) (last : Bool) (p : Located → Bool) (front : List Located) (x : Located) (kept : Optional Found) → sought_says s (Ok kept) ≡ accepted (sought last p front)
    → accepted (sought last p (front ++ (x ∷ []))) ≡ pick ((last || is_none kept) && p x) (accepted (some x)) (sought_says s (Ok kept))
sought_kept s last p front x kept e = rw (sought-next last p front x, kept_none s kept (sought last p front) e, e) (go ((last || not (is_some (sought last p front))) && p x))
  where
    go : (b : Bool) → accepted (pick b (some x) (sought last p front)) ≡ pick b (accepted (some x)) (accepted (sought last p front))
    go true = refl
    go false = refl

-- what is sought among OBUs that are located is what is sought among OBUs
module _ (last : Bool) (p : Obu → Bool) where
  sought-map : (l : List Located) → Option.map obu_at (sought last (λ o. p o.obu) l) ≡ sought last p (map obu_at l)
  unfolding sought or_else
  sought-map [] = refl
  sought-map (a ∷ l) = rw (← sought-map l) (go last (p a.obu) (sought last (λ o. p o.obu) l))
    where
      go : (n t : Bool) (y : Option Located)
          → Option.map obu_at (pick n (or_else y (pick t (some a) none)) (or_else (pick t (some a) none) y))
          ≡ pick n (or_else (Option.map obu_at y) (pick t (some a.obu) none)) (or_else (pick t (some a.obu) none) (Option.map obu_at y))
      go true t (some y) = refl
      go true true none = refl
      go true false none = refl
      go false true y = refl
      go false false y = refl

  pub sought-obus : (s : List ℕ) → answer (Option.map obu_at) (answer (sought last (λ o. p o.obu)) (located_obus s)) ≡ answer (sought last p) (obus s)
  sought-obus s = go (located_obus s) ∙ ap (answer (sought last p)) (obus-located s)
    where
      go : (x : Answer (List Located)) → answer (Option.map obu_at) (answer (sought last (λ o. p o.obu)) x) ≡ answer (sought last p) (answer (map obu_at) x)
      go (refused k) = refl
      go (accepted l) = ap accepted (sought-map l)

-- ---- the payload found

abbrev payload_of : Option Obu → List ℕ
payload_of none = []
payload_of (some o) = o.payload

module _ (p : Obu → Bool) where
  first-is : (os : List Obu) → payload_of (sought false p os) ≡ first_payload p os
  unfolding sought or_else first_payload
  first-is [] = refl
  first-is (o ∷ os) = go (p o) (first-is os)
    where
      go : (t : Bool) → payload_of (sought false p os) ≡ first_payload p os
          → payload_of (or_else (pick t (some o) none) (sought false p os)) ≡ pick t o.payload (first_payload p os)
      go true e = refl
      go false e = e

  last-is : (os : List Obu) → (payload_of (sought true p os) ≡ last_payload p os) × (is_some (sought true p os) ≡ has p os)
  unfolding sought or_else last_payload has
  last-is [] = (refl, refl)
  last-is (o ∷ os) = let (e, h) = last-is os in rw (← e, ← h) (go (p o) (sought true p os))
    where
      go : (t : Bool) (y : Option Obu)
          → (payload_of (or_else y (pick t (some o) none)) ≡ pick (is_some y) (payload_of y) (pick t o.payload [])) × (is_some (or_else y (pick t (some o) none)) ≡ (t || is_some y))
      go true none = (refl, refl)
      go false none = (refl, refl)
      go true (some y) = (refl, refl)
      go false (some y) = (refl, refl)

-- f is the payload of what is sought
module _ (last : Bool) (p : Obu → Bool) (f : List Obu → List ℕ) (is : (os : List Obu) → payload_of (sought last p os) ≡ f os) where
  found-is : (y : Option Located) → payload_found (accepted y) ≡ payload_of (Option.map obu_at y)
  found-is none = refl
  found-is (some y) = refl

  found-payload : (s : List ℕ) → payload_found (answer (sought last (λ o. p o.obu)) (located_obus s)) ≡ of_unit [] f (obus s)
  found-payload s = go (located_obus s) ∙ ap (of_unit [] f) (obus-located s)
    where
      go : (x : Answer (List Located)) → payload_found (answer (sought last (λ o. p o.obu)) x) ≡ of_unit [] f (answer (map obu_at) x)
      go (refused k) = refl
      go (accepted l) = found-is (sought last (λ o. p o.obu) l) ∙ ap payload_of (sought-map last p l) ∙ is (map obu_at l)

pub payload-first : (p : Obu → Bool) (s : List ℕ) → payload_found (answer (sought false (λ o. p o.obu)) (located_obus s)) ≡ of_unit [] (first_payload p) (obus s)
payload-first p s = found-payload false p (first_payload p) (first-is p) s

pub payload-last : (p : Obu → Bool) (s : List ℕ) → payload_found (answer (sought true (λ o. p o.obu)) (located_obus s)) ≡ of_unit [] (last_payload p) (obus s)
payload-last p s = found-payload true p (last_payload p) (λ os. (last-is p os).0) s

-- ---- a delimiter that is not first

-- no OBU is first
pub stray-none : (s : List ℕ) → obu_place s 0 ≡ no_more → of_unit false stray_in (obus s) ≡ false
stray-none s e = rw (walk_end (walk_start s) e)

pub stray-wrong : (s : List ℕ) (k : ℕ) → obu_place s 0 ≡ wrong k → of_unit false stray_in (obus s) ≡ false
stray-wrong s k e = rw (walk-stop (walk_start s) k e)

-- o is first, and n delimiters are counted
module _ (s : List ℕ) (o : Obu) (a b n : ℕ) (p : Placed s 0 o a b) (counted : answer (count is_delimiter) (obus s) ≡ accepted n) where
  rest : (x : Answer (List Obu)) → answer (count is_delimiter) (onto o x) ≡ accepted n → (ls : List Obu) × (onto o x ≡ accepted (o ∷ ls)) × (n ≡ pick (is_delimiter o) (suc (count is_delimiter ls)) (count is_delimiter ls))
  unfolding count
  rest (refused k) e = let z : ◌≡◌ {A = ℕ} 0 1 = cc in absurd (omega arith)
  rest (accepted ls) e = (ls, refl, let q : count is_delimiter (o ∷ ls) ≡ n = cc in sym q)

  first : (ls : List Obu) × (obus s ≡ accepted (o ∷ ls)) × (n ≡ pick (is_delimiter o) (suc (count is_delimiter ls)) (count is_delimiter ls))
  first =
      let h = obus-item s o (drop b s) p.head in
      let r = rest (obus (drop b s)) (sym (ap (answer (count is_delimiter)) h) ∙ counted) in
      (r.0, h ∙ r.1, r.2)

  pub stray-behind : is_delimiter o ≡ true → leb 2 n ≡ of_unit false stray_in (obus s)
  stray-behind t =
      let r = first in
      let c = count is_delimiter r.0 in
      ap (leb 2) (r.2 ∙ ap (λ b. pick b (suc c) c) t) ∙ leb-suc-suc 1 c ∙ has-count is_delimiter r.0 ∙ sym (ap (of_unit false stray_in) r.1)

  pub stray-any : is_delimiter o ≡ false → leb 1 n ≡ of_unit false stray_in (obus s)
  stray-any t =
      let r = first in
      let c = count is_delimiter r.0 in
      ap (leb 1) (r.2 ∙ ap (λ b. pick b (suc c) c) t) ∙ has-count is_delimiter r.0 ∙ sym (ap (of_unit false stray_in) r.1)

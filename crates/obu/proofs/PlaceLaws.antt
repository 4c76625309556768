-- Laws of the OBU at a position: the outcomes of reading it, and what it says.
use Prim.Native.Nat.{ℕ, ◌+◌, ◌-◌, ◌/◌, ◌%◌, ◌≤◌, ◌<◌}
use native.Mathlib.Omega.{arith}
use native.Mathlib.Numerals.{add-one}
use mathlib.Core.Path.{◌≡◌, refl, sym, ap, ◌∙◌}
use mathlib.Core.List.{List, [], ◌∷◌, ◌++◌, append-nil}
use mathlib.Core.Option.{Option, none, some}
use mathlib.Core.Bool.{true, false}
use lib.ListN.{length, get_or, take, drop, length-drop, length-take, drop_of_length-le}
use lib.Seq.{length-take-le, take_all, drop-cons, drop-drop, take-append_seam, drop-append_seam}
use lib.Dec.{leb, ltb}
use borrow.Author.Tests.{lt-ltb, le-ltb, ltb-true, ltb-false, lt-leb, le-leb, ne_eqb}
use Rattle.bitio.specs.Parse.{refused, accepted, Head, stop, item}
use Rattle.bitio.specs.Leb.{no_leb, leb_then, read_leb, sized}
use Rattle.bitio.proofs.ParseLaws.{pick-both, pick-cases, parts-length}
use Rattle.bitio.specs.Lent.{span}
use Rattle.obu.specs.Obu.{Obu, passes, sized_body, head_obu_of, head_obu, obus}
use Rattle.obu.specs.Place.{Place, no_more, wrong, lies, place_of, obu_place, part}
use Rattle.obu.specs.Write.{obu as obu_of}
use Rattle.obu.proofs.ObuLaws.{is-obu, obus-item, obus-stop, obus-nil, infront, infront-next, infront-nil}

-- the slice from p to the end is all that stands behind p
pub slice-to-end : (s : List ℕ) (p : ℕ) → take (length s - p) (drop p s) ≡ drop p s
slice-to-end s p = take_all (length s - p) (drop p s) (omega (arith, length-drop p s))

-- ---- the outcomes of a body: the header byte h and the extension e are read, and the rest starts at p

module _ (s : List ℕ) (h : ℕ) (e : Option ℕ) (p : ℕ) (in-s : p ≤ length s) where
  abbrev body : Place
  body = place_of s (sized_body h e (drop p s))

  pub body-rest : (h / 2 % 2 ≡ 1 → ⊥) → lies (h / 8 % 16) e p (length s) ≡ body
  body-rest n =
      let k : length s - 0 - (length s - p) ≡ p = omega arith in
      let z : length s - 0 ≡ length s = omega arith in
      rw (ne_eqb (h / 2 % 2) 1 n, length-drop p s, k, z)

  module _ (sz : h / 2 % 2 ≡ 1) where
    pub body-none : read_leb (drop p s) ≡ no_leb → wrong 4 ≡ body
    unfolding sized
    body-none b = rw (sz, b)

    module _ (n q : ℕ) (b : read_leb (drop p s) ≡ leb_then n (drop q s)) where
      pub body-over : length s - q < n → wrong 5 ≡ body
      unfolding sized
      body-over l =
          let m : length (drop q s) < n = rw length-drop l in
          rw (sz, b, lt-leb n (length (drop q s)) m)

      pub body-got : q ≤ length s → n ≤ length s - q → lies (h / 8 % 16) e q (q + n) ≡ body
      unfolding sized
      body-got w l =
          let m : n ≤ length (drop q s) = rw length-drop l in
          let t : length (take n (drop q s)) ≡ n = length-take-le n (drop q s) m in
          let d : length (drop n (drop q s)) ≡ length s - q - n = length-drop n (drop q s) ∙ rw length-drop in
          let j : length s - (length s - q - n) ≡ q + n = omega arith in
          let k : q + n - n ≡ q = omega arith in
          rw (sz, b, le-leb n (length (drop q s)) m, d, t, j, k)

-- ---- the outcomes of an OBU at a position

module _ (s : List ℕ) (at : ℕ) where
  pub at-end : length s ≤ at → no_more ≡ obu_place s at
  unfolding obu_place
  at-end l = rw (le-ltb at (length s) l)

  module _ (l : at < length s) where
    abbrev byte : ℕ
    byte = get_or s at 0

    pub at-forbidden : byte / 128 % 2 ≡ 1 → wrong 1 ≡ obu_place s at
    unfolding obu_place head_obu_of
    at-forbidden e = rw (lt-ltb at (length s) l, drop-cons s at 0 l, e)

    module _ (low : byte / 128 % 2 ≡ 1 → ⊥) where
      pub at-type : passes (byte / 8 % 16) ≡ false → wrong 2 ≡ obu_place s at
      unfolding obu_place head_obu_of
      at-type e = rw (lt-ltb at (length s) l, drop-cons s at 0 l, ne_eqb (byte / 128 % 2) 1 low, e)

      module _ (pass : passes (byte / 8 % 16) ≡ true) where
        pub at-short : byte / 4 % 2 ≡ 1 → length s ≤ at + 1 → wrong 3 ≡ obu_place s at
        unfolding obu_place head_obu_of
        at-short e k = rw (lt-ltb at (length s) l, drop-cons s at 0 l, ne_eqb (byte / 128 % 2) 1 low, pass, e, ← add-one at, drop_of_length-le s k)

        pub at-ext : byte / 4 % 2 ≡ 1 → at + 1 < length s → place_of s (sized_body byte (some (get_or s (at + 1) 0)) (drop (at + 1 + 1) s)) ≡ obu_place s at
        unfolding obu_place head_obu_of
        at-ext e k = rw (lt-ltb at (length s) l, drop-cons s at 0 l, ne_eqb (byte / 128 % 2) 1 low, pass, e, ← add-one at, drop-cons s (at + 1) 0 k, add-one (at + 1))

        pub at_plain : (byte / 4 % 2 ≡ 1 → ⊥) → place_of s (sized_body byte none (drop (at + 1) s)) ≡ obu_place s at
        unfolding obu_place head_obu_of
        at_plain e = rw (lt-ltb at (length s) l, drop-cons s at 0 l, ne_eqb (byte / 128 % 2) 1 low, pass, ne_eqb (byte / 4 % 2) 1 e, add-one at)

-- ---- what stands at a position, for callers

-- o is read at `at`: its payload lies from a to b, where the next OBU starts
pub record Placed (s : List ℕ) (at : ℕ) (o : Obu) (a b : ℕ) : Type 0 where
  pub here : at < length s
  pub head : head_obu (drop at s) ≡ item o (drop b s)
  pub payload : take (b - a) (drop a s) ≡ o.payload
  pub size : b - a ≡ length o.payload
  pub after : at < a
  pub ends : a ≤ b
  pub within : b ≤ length s
  pub passing : passes o.type ≡ true

-- the same, by the answer's values
pub record IsPlaced (s : List ℕ) (at t : ℕ) (e : Option ℕ) (a b : ℕ) : Type 0 where
  pub obu : Obu
  pub type : obu.type ≡ t
  pub ext : obu.ext ≡ e
  pub placed : Placed s at obu a b

module _ (s : List ℕ) (at : ℕ) where
  found : (o : Obu) (r : List ℕ) → at < length s → head_obu (drop at s) ≡ item o r → Placed s at o (length s - length r - length o.payload) (length s - length r)
  found o r l e =
      let i = is-obu (drop at s) o r e in
      let x = i.parts in
      let n = parts-length x in
      let m = length-drop at s in
      let f = length x.front in
      let p = length o.payload in
      let k : length s - length r - p ≡ at + f = omega (arith, x.some) in
      let j : length s - length r ≡ at + f + p = omega (arith, x.some) in
      let d : at + f + p - (at + f) ≡ p = omega arith in
      let q : drop (at + f) s ≡ o.payload ++ r = sym (drop-drop f at s) ∙ ap (drop f) x.split ∙ drop-append_seam x.front (o.payload ++ r) in
      let t : drop (at + f + p) s ≡ r = sym (drop-drop p (at + f) s) ∙ ap (drop p) q ∙ drop-append_seam o.payload r in
      rw (k, j)
      (record {
        here = l;
        head = rw t e;
        payload = rw (d, q) (take-append_seam o.payload r);
        size = d;
        after = omega (arith, x.some);
        ends = omega arith;
        within = omega (arith, x.some);
        passing = i.passing;
      })

  -- what the place of x says
  abbrev Says : Head Obu → Place → Type 0
  Says x no_more = length s ≤ at
  Says x (wrong k) = (at < length s) × (x ≡ stop k)
  Says x (lies t e a b) = IsPlaced s at t e a b

  says : (x : Head Obu) → at < length s → head_obu (drop at s) ≡ x → Says x (place_of s x)
  says (stop k) l e = (l, refl)
  says (item o r) l e = record { obu = o; type = refl; ext = refl; placed = found o r l e }

  place-says : Says (head_obu (drop at s)) (obu_place s at)
  unfolding obu_place
  place-says =
      pick-cases (Says (head_obu (drop at s))) (ltb at (length s)) (λ t. says (head_obu (drop at s)) (ltb-true at (length s) t) refl) (λ t. ltb-false at (length s) t)

  -- an OBU at a position, a refusal there, and the end
  pub is-placed : {t : ℕ} {e : Option ℕ} {a b : ℕ} → obu_place s at ≡ lies t e a b → IsPlaced s at t e a b
  is-placed q = rw q at place-says

  pub is-wrong : (k : ℕ) → obu_place s at ≡ wrong k → (at < length s) × (head_obu (drop at s) ≡ stop k)
  is-wrong k q = rw q at place-says

  pub is-end : obu_place s at ≡ no_more → length s ≤ at
  is-end q = rw q at place-says

-- ---- from one OBU to the next

-- the OBUs of s are those of the front, and then those from `at` on
pub record Walked (s : List ℕ) (at : ℕ) (front : List Obu) : Type 0 where
  pub whole : obus s ≡ infront front (obus (drop at s))
  pub within : at ≤ length s

pub walk_start : (s : List ℕ) → Walked s 0 []
walk_start s = record { whole = infront-nil (obus s); within = omega arith }

module _ {s : List ℕ} {at : ℕ} {front : List Obu} (w : Walked s at front) where
  pub walk-next : {o : Obu} {a b : ℕ} → Placed s at o a b → Walked s b (front ++ (o ∷ []))
  walk-next {o} {a} {b} p =
      record {
        whole = w.whole ∙ ap (infront front) (obus-item (drop at s) o (drop b s) p.head) ∙ infront-next front o (obus (drop b s));
        within = p.within;
      }

  pub walk_end : obu_place s at ≡ no_more → obus s ≡ accepted front
  walk_end q =
      w.whole ∙ ap (λ (l : List ℕ). infront front (obus l)) (drop_of_length-le s (is-end s at q)) ∙ ap (infront front) obus-nil
      ∙ ap accepted (append-nil front)

  pub walk-stop : (k : ℕ) → obu_place s at ≡ wrong k → obus s ≡ refused k
  walk-stop k q =
      let (l, e) = is-wrong s at k q in
      w.whole ∙ ap (infront front) (obus-stop (drop at s) k (omega (arith, length-drop at s)) e)

-- ---- the payload

pub part_none : (s : List ℕ) → part s 0 0 ≡ []
unfolding part span
part_none s = rw (le-leb 0 (length s) (omega arith))

pub part_placed : {s : List ℕ} {at : ℕ} {o : Obu} {a b : ℕ} → Placed s at o a b → part s a b ≡ o.payload
unfolding part span
part_placed {s} {at} {o} {a} {b} p = rw (le-leb a b p.ends, le-leb b (length s) p.within) p.payload

-- an OBU as its place says
pub placed-obu : {s : List ℕ} {at t a b : ℕ} {e : Option ℕ} (g : IsPlaced s at t e a b) → obu_of t e (part s a b) ≡ g.obu
placed-obu {s} {at} {t} {a} {b} {e} g =
    ap (λ x. obu_of x e (part s a b)) (sym g.type) ∙ ap (λ x. obu_of g.obu.type x (part s a b)) (sym g.ext)
    ∙ ap (λ x. obu_of g.obu.type g.obu.ext x) (part_placed g.placed)

-- a part is no longer than the bytes
pub part-short : (s : List ℕ) (a e : ℕ) → length (part s a e) ≤ length s
unfolding part span
part-short s a e =
    let P : List ℕ → Type 0 = λ l. length l ≤ length s in
    pick-both P (leb a e) (pick-both P (leb e (length s)) (omega (arith, length-take (e - a) (drop a s), length-drop a s)) (omega arith)) (omega arith)

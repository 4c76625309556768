-- Laws of the sized parts of Annex B: the outcomes of finding them, and what is read of them.
use Prim.Native.Nat.{ℕ, ◌+◌, ◌/◌, ◌%◌, ◌≤◌, ◌<◌}
use native.Mathlib.Omega.{arith}
use mathlib.Core.Path.{◌≡◌, refl, ap, ◌∙◌}
use mathlib.Core.List.{List, [], ◌∷◌, ◌++◌}
use mathlib.Core.Option.{Option, none, some}
use mathlib.Core.Bool.{true}
use lib.ListN.{length, take, drop, length-append}
use lib.Dec.{leb, eqb}
use borrow.Author.Tests.{lt-leb, le-leb, ne_eqb, eq-eqb}
use Rattle.std.specs.Prelude.{Option as Optional, Some, None, ⊤}
use Rattle.std.specs.Borrow.{Bor}
use Rattle.std.specs.Iterator.{MakesProgress}
use Rattle.bitio.specs.Parse.{Answer, refused, accepted, Head, stop, item, before, within}
use Rattle.bitio.specs.Leb.{Number, no_leb, leb_then, read_leb, sized_part, sized}
use Rattle.bitio.proofs.ParseLaws.{pick-both, pick-cases, parts-length}
use Rattle.bitio.proofs.LebLaws.{LebParts, read-parts, sized-parts}
use Rattle.obu.specs.Obu.{Obu, flag, obu_type, passes, obu_with}
use Rattle.container.specs.AnnexB.{with_size, typed, extended_b, inner_obu_of, inner_obu, length_obu_of, length_obu}
use Rattle.annexb.specs.declared.annexb.parts.Parts.{Parts as Walk}
use Rattle.annexb.specs.code.Parts.{GivesPart, bytes_left}

-- ---- the outcomes of a sized part

module _ (s : List ℕ) (x y : ℕ) where
  pub part_none : read_leb s ≡ no_leb → stop x ≡ sized x y s
  unfolding sized
  part_none b = rw b

  module _ {n : ℕ} {r : List ℕ} (b : read_leb s ≡ leb_then n r) where
    pub part-over : length r < n → stop y ≡ sized x y s
    unfolding sized
    part-over l = rw (b, lt-leb n (length r) l)

    pub part-got : n ≤ length r → item (take n r) (drop n r) ≡ sized x y s
    unfolding sized
    part-got l = rw (b, le-leb n (length r) l)

-- parts of two levels differ in the refusals alone
module _ (a b x y : ℕ) (s : List ℕ) where
  pub other-part : {p r : List ℕ} → sized a b s ≡ item p r → sized x y s ≡ item p r
  unfolding sized
  other-part {p} {r} q = go (read_leb s) q
    where
      go : (n : Number) → sized_part a b n ≡ item p r → sized_part x y n ≡ item p r
      go no_leb q = cc
      go (leb_then n t) q = pick-cases (λ h. h ≡ item p r) (leb n (length t)) (λ e. rw e at q) (λ e. let z : stop b ≡ item p r = rw e at q in cc)

  pub no-other : {k : ℕ} → sized a b s ≡ stop k → (j : ℕ) × (sized x y s ≡ stop j)
  unfolding sized
  no-other {k} q = go (read_leb s) q
    where
      go : (n : Number) → sized_part a b n ≡ stop k → (j : ℕ) × (sized_part x y n ≡ stop j)
      go no_leb q = (x, refl)
      go (leb_then n t) q = pick-cases (λ h. (j : ℕ) × (h ≡ stop j)) (leb n (length t)) (λ e. let z : item (take n t) (drop n t) ≡ stop k = rw e at q in cc) (λ e. (y, refl))

-- what a part and what follows it have, where all have so many
pub part-less : (x y : ℕ) (s : List ℕ) {p r : List ℕ} → sized x y s ≡ item p r → length p + length r < length s
part-less x y s q = let z = parts-length (rw q at (sized-parts x y s)) in omega (arith, z, (rw q at (sized-parts x y s)).some)

-- each turn of the walk over parts has less to go
pub goes-on : (it : Walk) (r : Optional (Bor (List ℕ))) (new : Walk) → GivesPart it r new → MakesProgress (λ _. ⊤) bytes_left it r new
goes-on it None new g = record { on = λ _. tt; keeps = tt; rests = λ _. tt }
goes-on it (Some p) new g = record { on = λ _. (tt, tt, omega (arith, part-less 6 7 it.rest.now g)); keeps = tt; rests = λ _. tt }

-- ---- the outcomes of an OBU that fills its bytes

module _ (h : ℕ) (x : Option ℕ) (s : List ℕ) where
  pub size-bad : read_leb s ≡ no_leb → refused 4 ≡ with_size h x (read_leb s)
  size-bad b = rw b

  module _ {n : ℕ} {r : List ℕ} (b : read_leb s ≡ leb_then n r) where
    pub size-other : (n ≡ length r → ⊥) → refused 40 ≡ with_size h x (read_leb s)
    size-other d = rw (b, ne_eqb n (length r) d)

    pub size-all : n ≡ length r → accepted (obu_with h x r) ≡ with_size h x (read_leb s)
    size-all d = rw (b, eq-eqb n (length r) d)

  pub typed-rest : passes (obu_type h) ≡ true → (h / 2 % 2 ≡ 1 → ⊥) → accepted (obu_with h x s) ≡ typed true h x s
  typed-rest a q = rw (a, ne_eqb (h / 2 % 2) 1 q)

module _ (h : ℕ) (s : List ℕ) where
  pub inner-forbidden : h / 128 % 2 ≡ 1 → refused 1 ≡ inner_obu (h ∷ s)
  unfolding inner_obu_of
  inner-forbidden q = rw q

  module _ (low : h / 128 % 2 ≡ 1 → ⊥) where
    pub inner-plain : (h / 4 % 2 ≡ 1 → ⊥) → typed true h none s ≡ inner_obu (h ∷ s)
    unfolding inner_obu_of
    inner-plain q = rw (ne_eqb (h / 128 % 2) 1 low, ne_eqb (h / 4 % 2) 1 q)

    pub inner-ext : h / 4 % 2 ≡ 1 → extended_b true h s ≡ inner_obu (h ∷ s)
    unfolding inner_obu_of
    inner-ext q = rw (ne_eqb (h / 128 % 2) 1 low, q)

-- ---- what is read of such an OBU

-- its payload is no longer than p, and its type passes
pub record IsInner (p : List ℕ) (o : Obu) : Type 0 where
  pub short : length o.payload ≤ length p
  pub passing : passes o.type ≡ true

abbrev Inside : List ℕ → Answer Obu → Type 0
Inside p (refused k) = Unit
Inside p (accepted o) = IsInner p o

-- f is what stands before p
module _ (f : List ℕ) (h : ℕ) (x : Option ℕ) (p : List ℕ) where
  sized_inside : (n : Number) → LebParts p n → passes (obu_type h) ≡ true → Inside (f ++ p) (with_size h x n)
  sized_inside no_leb z a = tt
  sized_inside (leb_then n r) z a =
      pick-both (Inside (f ++ p)) (eqb n (length r)) (record { short = omega (arith, parts-length z, length-append f p); passing = a }) tt

  typed-inside : Inside (f ++ p) (typed true h x p)
  typed-inside =
      let P = Inside (f ++ p) in
      pick-cases P (passes (obu_type h)) (λ a. pick-both P (flag 2 h) (sized_inside (read_leb p) (read-parts p) a) (record { short = omega (arith, length-append f p); passing = a })) (λ a. tt)

extended-inside : (h : ℕ) (p : List ℕ) → Inside (h ∷ p) (extended_b true h p)
extended-inside h [] = tt
extended-inside h (x ∷ p) = typed-inside (h ∷ x ∷ []) h (some x) p

inner-inside : (p : List ℕ) → Inside p (inner_obu p)
unfolding inner_obu_of
inner-inside [] = tt
inner-inside (h ∷ p) =
    let P = Inside (h ∷ p) in
    pick-both P (flag 128 h) tt (pick-both P (flag 4 h) (extended-inside h p) (typed-inside (h ∷ []) h none p))

pub inner-is : {p : List ℕ} {o : Obu} → inner_obu p ≡ accepted o → IsInner p o
inner-is {p} q = rw q at (inner-inside p)

-- an OBU with its length, by its part
module _ (s : List ℕ) where
  pub length-stop : {k : ℕ} → sized 10 11 s ≡ stop k → stop k ≡ length_obu s
  unfolding length_obu_of
  length-stop q = rw q

  pub length_part : {p r : List ℕ} → sized 10 11 s ≡ item p r → length_obu s ≡ before r (inner_obu p)
  unfolding length_obu_of
  length_part q = rw q

  -- what it and what follows it have, where all have so many
  pub length-less : {o : Obu} {r : List ℕ} → length_obu s ≡ item o r → length o.payload + length r < length s
  unfolding length_obu_of
  length-less {o} {r} q = go (sized 10 11 s) refl q
    where
      put : (p t : List ℕ) → length p + length t < length s → (x : Answer Obu) → inner_obu p ≡ x → before t x ≡ item o r → length o.payload + length r < length s
      put p t l (refused k) e q = cc
      put p t l (accepted y) e q =
          let ey : y ≡ o = cc in
          let er : t ≡ r = cc in
          let z = (inner-is (e ∙ ap accepted ey)).short in
          omega (arith, l, z, ap length er)

      go : (h : Head (List ℕ)) → sized 10 11 s ≡ h → within h inner_obu ≡ item o r → length o.payload + length r < length s
      go (stop k) e q = cc
      go (item p t) e q = put p t (part-less 10 11 s e) (inner_obu p) refl q

-- Laws of OBUs: what is read, and reading back what was written.
use Prim.Native.Nat.{ℕ, ◌+◌, ◌*◌, ◌/◌, ◌%◌, ◌^◌, ◌<◌}
use native.Mathlib.Omega.{arith}
use mathlib.Core.Path.{◌≡◌, refl, sym, ap, ◌∙◌}
use mathlib.Core.List.{List, [], ◌∷◌, ◌++◌, flat_map, append_assoc, append-nil}
use mathlib.Core.Option.{Option, none, some}
use mathlib.Core.Bool.{Bool, true, false, cond as pick, ◌||◌}
use lib.ListN.{length}
use lib.Dec.{leb, eqb}
use borrow.Author.Tests.{leb-true, eqb-true}
use Rattle.bitio.specs.Parse.{Answer, refused, accepted, Head, stop, item, within, onto}
use Rattle.bitio.specs.Every.{Every}
use Rattle.bitio.proofs.ParseLaws.{Leaves, Shrinks, pick-both, pick-cases, many-item, many-stop, many-nil, Back, many-all, Holds, many-each, many-agree, Parts, parts-less, parts-behind}
use Rattle.bitio.specs.Every.Every.{nothing, also}
use Rattle.bitio.specs.Leb.{sized, framed}
use Rattle.bitio.proofs.LebLaws.{sized-back, Sized, sized-parts}
use Rattle.obu.specs.Obu.{Obu, flag, obu_type, passes, obu_with, sized_body, extended, head_obu_of, head_obu, obus_of, obus, spec_obus, obu_bytes, unit_bytes, Written}

-- ---- what is read is a part of the list

-- an OBU at the head of s, with r behind it
pub record IsObu (pass : ℕ → Bool) (s : List ℕ) (o : Obu) (r : List ℕ) : Type 0 where
  pub parts : Parts s o.payload r
  pub passing : pass o.type ≡ true

module _ (pass : ℕ → Bool) where
  abbrev pub Headed : List ℕ → Head Obu → Type 0
  Headed s (stop k) = Unit
  Headed s (item o r) = IsObu pass s o r

  -- f is the header and the extension, s what follows
  body_is : (f : List ℕ) (h : ℕ) (e : Option ℕ) (s : List ℕ) → 0 < length f → pass (obu_type h) ≡ true → Headed (f ++ s) (sized_body h e s)
  body_is f h e s l a =
      go (pick (flag 2 h) (sized 4 5 s) (item s []))
      (pick-both (Sized (f ++ s)) (flag 2 h) (behind (sized 4 5 s) (sized-parts 4 5 s)) (record { front = f; some = l; split = simp append-nil }))
    where
      behind : (x : Head (List ℕ)) → Sized s x → Sized (f ++ s) x
      behind (stop k) m = tt
      behind (item p r) m = parts-behind m f

      go : (x : Head (List ℕ)) → Sized (f ++ s) x → Headed (f ++ s) (within x (λ p. accepted (obu_with h e p)))
      go (stop k) m = tt
      go (item p r) m = record { parts = m; passing = a }

  extended-is : (h : ℕ) (s : List ℕ) → pass (obu_type h) ≡ true → Headed (h ∷ s) (extended h s)
  extended-is h [] a = tt
  extended-is h (e ∷ s) a = body_is (h ∷ e ∷ []) h (some e) s (omega arith) a

  pub head-is : (s : List ℕ) → Headed s (head_obu_of pass s)
  unfolding head_obu_of
  head-is [] = tt
  head-is (h ∷ s) =
      let P = Headed (h ∷ s) in
      pick-both P (flag 128 h) tt
      (pick-cases P (pass (obu_type h)) (λ a. pick-both P (flag 4 h) (extended-is h s a) (body_is (h ∷ []) h none s (omega arith) a)) (λ a. tt))

  -- reading an OBU leaves fewer bytes
  pub obu-shrinks : Shrinks (head_obu_of pass)
  obu-shrinks s = go (head_obu_of pass s) (head-is s)
    where
      go : (x : Head Obu) → Headed s x → Leaves (length s) x
      go (stop k) h = tt
      go (item o r) h = (parts-less h.parts).0

pub is-obu : (s : List ℕ) (o : Obu) (r : List ℕ) → head_obu s ≡ item o r → IsObu passes s o r
is-obu s o r e = rw e at (head-is passes s)

-- ---- one OBU after another

pub obus-nil : obus [] ≡ accepted []
unfolding obus_of
obus-nil = many-nil head_obu

pub obus-item : (s : List ℕ) (o : Obu) (r : List ℕ) → head_obu s ≡ item o r → obus s ≡ onto o (obus r)
unfolding obus_of
obus-item s o r e = many-item head_obu (obu-shrinks passes) s o r e

pub obus-stop : (s : List ℕ) (k : ℕ) → 0 < length s → head_obu s ≡ stop k → obus s ≡ refused k
unfolding obus_of
obus-stop s k l e = many-stop head_obu (obu-shrinks passes) s k l e

-- ---- an OBU that can be written and read

pub record Allowed (o : Obu) : Type 0 where
  pub passing : passes o.type ≡ true
  pub short : length o.payload < 2 ^ 56

pub passes-small : (t : ℕ) → passes t ≡ true → t < 16
unfolding passes
passes-small t e = go (leb t 8) (eqb t 15) refl refl e
  where
    go : (a b : Bool) → leb t 8 ≡ a → eqb t 15 ≡ b → (a || b) ≡ true → t < 16
    go true b p q e = omega (arith, leb-true t 8 p)
    go false true p q e = omega (arith, eqb-true t 15 q)
    go false false p q e = let z : ◌≡◌ {A = ℕ} 0 1 = cc in absurd (omega arith)

-- the fields of a written header byte
pub record Fields (t x f h : ℕ) : Type 0 where
  pub forbidden : flag 128 h ≡ false
  pub type : obu_type h ≡ t
  pub ext : h / 4 % 2 ≡ x
  pub size : h / 2 % 2 ≡ f

pub fields : (t x f h : ℕ) → t < 16 → x < 2 → f < 2 → h ≡ 8 * t + 4 * x + 2 * f → Fields t x f h
fields t x f h a b c e =
    let k : h / 128 % 2 ≡ 0 = omega arith in
    record { forbidden = rw k; type = omega arith; ext = omega arith; size = omega arith }

-- the head, by its header byte
module _ (h : ℕ) (low : flag 128 h ≡ false) (pass : passes (obu_type h) ≡ true) where
  head_plain : (s : List ℕ) → flag 4 h ≡ false → head_obu (h ∷ s) ≡ sized_body h none s
  unfolding head_obu_of
  head_plain s k = rw (low, pass, k)

  head-ext : (e : ℕ) (s : List ℕ) → flag 4 h ≡ true → head_obu (h ∷ e ∷ s) ≡ sized_body h (some e) s
  unfolding head_obu_of
  head-ext e s k = rw (low, pass, k)

body_back : (h : ℕ) (e : Option ℕ) (p r : List ℕ) → flag 2 h ≡ true → length p < 2 ^ 56 → sized_body h e (framed p ++ r) ≡ item (obu_with h e p) r
body_back h e p r k l = rw (k, sized-back 4 5 p r l)

back : (t : ℕ) (e : Option ℕ) (p r : List ℕ) → passes t ≡ true → length p < 2 ^ 56
    → head_obu (obu_bytes (record { type = t; ext = e; payload = p }) ++ r) ≡ item (record { type = t; ext = e; payload = p }) r
unfolding obu_bytes
back t none p r a l =
    let h = 8 * t + 0 + 2 in
    let f = fields t 0 1 h (passes-small t a) (omega arith) (omega arith) (omega arith) in
    head_plain h f.forbidden (rw f.type a) (framed p ++ r) (rw f.ext) ∙ body_back h none p r (rw f.size) l ∙ rw f.type
back t (some x) p r a l =
    let h = 8 * t + 4 + 2 in
    let f = fields t 1 1 h (passes-small t a) (omega arith) (omega arith) (omega arith) in
    head-ext h f.forbidden (rw f.type a) x (framed p ++ r) (rw f.ext) ∙ body_back h (some x) p r (rw f.size) l ∙ rw f.type

-- an OBU in written form is read back, whatever stands behind it
pub head-back : (o : Obu) → Allowed o → (r : List ℕ) → head_obu (obu_bytes o ++ r) ≡ item o r
head-back o a r = back o.type o.ext o.payload r a.passing a.short

-- ---- the OBUs of what was written

pub obus-obu : (o : Obu) → Allowed o → (r : List ℕ) → obus (obu_bytes o ++ r) ≡ onto o (obus r)
obus-obu o a r = obus-item (obu_bytes o ++ r) o r (head-back o a r)

every : {os : List Obu} → Every Allowed os → Every (Back head_obu obu_bytes) os
every nothing = nothing
every (also {a = o} h hs) = also (head-back o h) (every hs)

-- README claims it: the OBUs of the bytes of any OBU list that can be written are that list
pub obus-unit : {os : List Obu} → Every Allowed os → obus (unit_bytes os) ≡ accepted os
unfolding obus_of unit_bytes
obus-unit hs = many-all head_obu obu_bytes (obu-shrinks passes) (every hs)

module _ {A : Type 0} where
  -- things in front of an answer
  abbrev pub infront : List A → Answer (List A) → Answer (List A)
  infront front (refused k) = refused k
  infront front (accepted l) = accepted (front ++ l)

  infront-onto : (a : A) (l : List A) (x : Answer (List A)) → onto a (infront l x) ≡ infront (a ∷ l) x
  infront-onto a l (refused k) = refl
  infront-onto a l (accepted m) = refl

  pub infront-next : (l : List A) (a : A) (x : Answer (List A)) → infront l (onto a x) ≡ infront (l ++ (a ∷ [])) x
  infront-next l a (refused k) = refl
  infront-next l a (accepted m) = ap accepted (sym (append_assoc l (a ∷ []) m))

  pub infront-nil : (x : Answer (List A)) → x ≡ infront [] x
  infront-nil (refused k) = refl
  infront-nil (accepted l) = refl

-- behind written OBUs reading goes on as if they were not there
pub obus-behind : {os : List Obu} → Every Allowed os → (b : List ℕ) → obus (unit_bytes os ++ b) ≡ infront os (obus b)
unfolding unit_bytes flat_map
obus-behind nothing b = infront-nil (obus b)
obus-behind (also {a = o} {l = os} h hs) b =
    rw append_assoc (obus-obu o h (unit_bytes os ++ b) ∙ rw (obus-behind hs b) (infront-onto o os (obus b)))

-- ---- what was read can be written

head-allowed : (s : List ℕ) → length s < 2 ^ 56 → Holds Allowed (head_obu s)
head-allowed s l = go (head_obu s) (head-is passes s)
  where
    go : (x : Head Obu) → Headed passes s x → Holds Allowed x
    go (stop k) h = tt
    go (item o r) h = let m = parts-less h.parts in record { passing = h.passing; short = omega arith }

pub obus-allowed : (s : List ℕ) (os : List Obu) → length s < 2 ^ 56 → obus s ≡ accepted os → Every Allowed os
unfolding obus_of
obus-allowed s os l e = rw e at (many-each Allowed head_obu (2 ^ 56) (obu-shrinks passes) head-allowed s l)

-- the bytes of OBUs that can be read are in written form
pub unit-written : {os : List Obu} → Every Allowed os → Written (unit_bytes os) os
unit-written hs = record { reads = obus-unit hs; bytes = refl }

-- ---- AV1's own reading, and this one

typed : (f t : Bool) (x : Head Obu) → (pick f (stop 1) (pick t x (stop 2)) ≡ stop 2 → ⊥) → pick f (stop 1) (pick t x (stop 2)) ≡ pick f (stop 1) x
typed true t x n = refl
typed false true x n = refl
typed false false x n = absurd (n refl)

head-agrees : (s : List ℕ) → (head_obu s ≡ stop 2 → ⊥) → head_obu s ≡ head_obu_of (λ t. true) s
unfolding head_obu_of
head-agrees [] n = refl
head-agrees (h ∷ s) n = typed (flag 128 h) (passes (obu_type h)) (pick (flag 4 h) (extended h s) (sized_body h none s)) n

-- docs/DIFFERENCES.md claims it: where no OBU that is met has a reserved type 9 to 14, AV1's reading and this one are the same
pub obus-agree : (s : List ℕ) → (obus s ≡ refused 2 → ⊥) → obus s ≡ spec_obus s
unfolding obus_of
obus-agree s n = many-agree head_obu (head_obu_of (λ t. true)) 2 head-agrees s n

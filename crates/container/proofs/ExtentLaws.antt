-- Laws of where units lie: the unit at the front of what is left.
use Prim.Native.Nat.{ℕ, suc, ◌≤◌, ◌<◌}
use native.Mathlib.Omega.{arith}
use mathlib.Core.Path.{◌≡◌, refl, sym, ap, ap₂, ◌∙◌}
use mathlib.Core.List.{List, [], ◌∷◌, ◌++◌, tail, append_assoc}
use mathlib.Core.Bool.{Bool, true, false, cond as pick, ◌||◌, ◌&&◌, or-false}
use lib.ListN.{length}
use Rattle.obu.specs.Obu.{Obu}
use Rattle.obu.specs.Unit.{is_delimiter, is_frame, count}
use Rattle.container.specs.Stream.{lead, others, either, units}
use Rattle.container.specs.code.Extents.{last_lead, led, reopens}
use Rattle.container.proofs.LeadLaws.{join_is, join-twice}
use Rattle.container.proofs.StreamLaws.{tick, leads, delimiter-frame, count-append, Front, units-more, units-last}

abbrev pub is_none : List Obu → Bool
is_none [] = true
is_none (o ∷ os) = false

-- ---- one OBU more

pub leads-next : (os : List Obu) (o : Obu) → leads (os ++ (o ∷ [])) ≡ (leads os || (is_none os && is_delimiter o))
leads-next [] o = refl
leads-next (a ∷ os) o = sym (or-false (is_delimiter a))

last-next : (os : List Obu) (o : Obu) → last_lead (os ++ (o ∷ [])) ≡ pick (is_delimiter o) (o ∷ []) (last_lead os)
unfolding last_lead
last-next [] o = refl
last-next (a ∷ os) o = rw (last-next os o) (go (is_delimiter o))
  where
    go : (b : Bool) → either (pick b (o ∷ []) (last_lead os)) (lead (a ∷ [])) ≡ pick b (o ∷ []) (either (last_lead os) (lead (a ∷ [])))
    go true = refl
    go false = refl

-- a delimiter leads if the first OBU is none
pub led-takes : (os : List Obu) (o : Obu) → is_delimiter o ≡ true → leads os ≡ false → led (os ++ (o ∷ [])) ≡ o ∷ []
unfolding last_lead
led-takes [] o d e = rw d
led-takes (a ∷ os) o d e =
    let q : last_lead ((a ∷ os) ++ (o ∷ [])) ≡ o ∷ [] = last-next (a ∷ os) o ∙ rw d in
    ap (either (lead (a ∷ []))) q ∙ rw e

-- the first OBU leads for good if it is one
pub led-first : (os : List Obu) (o : Obu) → leads os ≡ true → led (os ++ (o ∷ [])) ≡ led os
led-first [] o e = let z : ◌≡◌ {A = ℕ} 0 1 = cc in absurd (omega arith)
led-first (a ∷ os) o e = rw e

-- what is no delimiter does not lead
pub led-other : (os : List Obu) (o : Obu) → is_delimiter o ≡ false → led (os ++ (o ∷ [])) ≡ led os
unfolding last_lead
led-other [] o d = rw d
led-other (a ∷ os) o d = ap (either (lead (a ∷ []))) (last-next (a ∷ os) o ∙ rw d)

-- ---- the OBUs before a frame: what waits, and the beginning of the unit with the frame

record Parted (os : List Obu) : Type 0 where
  w : List Obu
  h : List Obu
  list : w ++ h ≡ os
  trimmed : count is_delimiter (tail h) ≡ 0
  apart : 0 < length w → leads h ≡ true
  last : lead h ≡ last_lead os

either-leads : (h x : List Obu) → leads h ≡ true → either (lead h) x ≡ lead h
either-leads [] x e = let z : ◌≡◌ {A = ℕ} 0 1 = cc in absurd (omega arith)
either-leads (o ∷ h) x e = rw e

lead-none : (h : List Obu) → leads h ≡ false → lead h ≡ []
lead-none [] e = refl
lead-none (o ∷ h) e = rw e

none_in : (h : List Obu) → leads h ≡ false → count is_delimiter (tail h) ≡ 0 → count is_delimiter h ≡ 0
unfolding count
none_in [] e t = refl
none_in (o ∷ h) e t = rw e t

not-apart : (w h : List Obu) → (0 < length w → leads h ≡ true) → leads h ≡ false → w ≡ []
not-apart [] h k e = refl
not-apart (o ∷ w) h k e = let d = k (omega arith) in let z : ◌≡◌ {A = ℕ} 0 1 = cc in absurd (omega arith)

parted : (os : List Obu) → Parted os
unfolding last_lead count
parted [] = record { w = []; h = []; list = refl; trimmed = refl; apart = λ l. absurd (omega arith); last = refl }
parted (o ∷ os) = go (parted os)
  where
    next : (p : Parted os) (b : Bool) → leads p.h ≡ b → Parted (o ∷ os)
    next p true e =
        record {
          w = o ∷ p.w;
          h = p.h;
          list = ap (λ l. o ∷ l) p.list;
          trimmed = p.trimmed;
          apart = λ _. e;
          last = sym (either-leads p.h (lead (o ∷ [])) e) ∙ ap (λ l. either l (lead (o ∷ []))) p.last;
        }
    next p false e =
        let n = not-apart p.w p.h p.apart e in
        record {
          w = [];
          h = o ∷ p.h;
          list = ap (λ l. o ∷ l) (ap (λ l. l ++ p.h) (sym n) ∙ p.list);
          trimmed = none_in p.h e p.trimmed;
          apart = λ l. absurd (omega arith);
          last = ap (λ l. either l (lead (o ∷ []))) (sym (lead-none p.h e) ∙ p.last);
        }

    go : Parted os → Parted (o ∷ os)
    go p = next p (leads p.h) refl

-- ---- the first unit

frame-delimiter : (o : Obu) → is_frame o ≡ true → is_delimiter o ≡ false
frame-delimiter o e = go (is_delimiter o) refl
  where
    go : (x : Bool) → is_delimiter o ≡ x → is_delimiter o ≡ false
    go true d = let f = delimiter-frame o d in let z : ◌≡◌ {A = ℕ} 0 1 = cc in absurd (omega arith)
    go false d = d

either-self : (x : List Obu) → either x x ≡ x
either-self [] = refl
either-self (o ∷ x) = refl

either-whole : (w h : List Obu) → either (lead w) (lead h) ≡ either (lead (w ++ h)) (lead h)
either-whole [] h = sym (either-self (lead h))
either-whole (o ∷ w) h = refl

-- a frame is behind the front, and mid behind it has none and no delimiter
module _ (front : List Obu) (f : Obu) (mid : List Obu)
    (waits : count is_frame front ≡ 0) (framed : is_frame f ≡ true) (frames : count is_frame mid ≡ 0) (delimiters : count is_delimiter mid ≡ 0) where
  p : Parted front
  p = parted front

  abbrev w : List Obu
  w = p.w

  abbrev h : List Obu
  h = p.h

  abbrev g : List Obu
  g = h ++ (f ∷ mid)

  lead-g : (l : List Obu) → lead (l ++ (f ∷ mid)) ≡ lead l
  lead-g [] = rw (frame-delimiter f framed)
  lead-g (o ∷ l) = refl

  leads-g : (l : List Obu) → leads l ≡ true → leads (l ++ (f ∷ mid)) ≡ true
  leads-g [] e = let z : ◌≡◌ {A = ℕ} 0 1 = cc in absurd (omega arith)
  leads-g (o ∷ l) e = e

  trimmed-g : (l : List Obu) → count is_delimiter (tail l) ≡ 0 → count is_delimiter (tail (l ++ (f ∷ mid))) ≡ 0
  unfolding count
  trimmed-g [] e = delimiters
  trimmed-g (o ∷ l) e = count-append is_delimiter l (f ∷ mid) ∙ rw (frame-delimiter f framed) (omega arith)

  frames-f : count is_frame (f ∷ mid) ≡ 1
  unfolding count
  frames-f = rw framed (ap suc frames)

  frames-w : (count is_frame w ≡ 0) × (count is_frame h ≡ 0)
  frames-w =
      let n = count-append is_frame w h in
      let m = ap (count is_frame) p.list in
      (omega (arith, waits), omega (arith, waits))

  front-is : Front w g
  front-is =
      record {
        waits = frames-w.0;
        single = record { trimmed = trimmed-g h p.trimmed; single = count-append is_frame h (f ∷ mid) ∙ omega (arith, frames-w.1, frames-f) };
        apart = λ l. leads-g h (p.apart l);
      }

  list-is : (r : List Obu) → w ++ (g ++ r) ≡ front ++ (f ∷ (mid ++ r))
  list-is r = ap (λ l. w ++ l) (append_assoc h (f ∷ mid) r) ∙ sym (append_assoc w h (f ∷ (mid ++ r))) ∙ ap (λ l. l ++ (f ∷ (mid ++ r))) p.list

  led-is : either (lead w) (lead g) ≡ led front
  led-is =
      ap (either (lead w)) (lead-g h) ∙ either-whole w h ∙ ap₂ (λ x y. either (lead x) y) p.list p.last

  module _ (r : List Obu) (opening : reopens r ≡ true) where
    -- it goes out by itself if another frame follows
    pub first_more : 1 ≤ count is_frame r → units (front ++ (f ∷ (mid ++ r))) ≡ (led front ++ others (front ++ (f ∷ mid))) ∷ units r
    first_more n =
        ap units (sym (list-is r)) ∙ units-more w g r front-is opening n
        ∙ ap (λ l. l ∷ units r) (join_is w g ∙ ap₂ (λ x y. x ++ others y) led-is (sym (append_assoc w h (f ∷ mid)) ∙ ap (λ l. l ++ (f ∷ mid)) p.list))

    -- else with all that follows
    pub first-last : count is_frame r ≡ 0 → units (front ++ (f ∷ (mid ++ r))) ≡ (either (led front) (lead r) ++ others (front ++ (f ∷ (mid ++ r)))) ∷ []
    first-last n =
        ap units (sym (list-is r)) ∙ units-last w g r front-is opening n
        ∙ ap (λ l. l ∷ []) (join-twice w g r ∙ ap₂ (λ x y. either x (lead r) ++ others y) led-is (list-is r))

abbrev pub first_of : List Obu → List Obu
first_of [] = []
first_of (o ∷ os) = o ∷ []

-- what opens a unit and is no frame is a delimiter
pub first-leads : (r : List Obu) → reopens r ≡ true → count is_frame r ≡ 0 → lead r ≡ first_of r
unfolding count
first-leads [] e n = refl
first-leads (o ∷ r) e n = go (is_delimiter o) (is_frame o) e n
  where
    go : (x y : Bool) → (x || y) ≡ true → tick y (count is_frame r) ≡ 0 → pick x (o ∷ []) [] ≡ o ∷ []
    go true y e n = refl
    go false true e n = absurd (omega arith)
    go false false e n = let z : ◌≡◌ {A = ℕ} 0 1 = cc in absurd (omega arith)

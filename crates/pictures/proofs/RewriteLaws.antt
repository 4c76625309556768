-- Laws of units with their sequence headers replaced, measured and written: one OBU more.
use Prim.Native.Nat.{ℕ, ◌+◌, ◌≤◌}
use native.Mathlib.Omega.{arith}
use mathlib.Core.Path.{◌≡◌, refl, sym, ap, ap₂, ◌∙◌}
use mathlib.Core.List.{List, [], ◌∷◌, ◌++◌, flat_map, append-nil, append_assoc}
use mathlib.Core.Option.{Option}
use mathlib.Core.Bool.{true}
use lib.ListN.{length, drop, length-append}
use Rattle.bitio.specs.Parse.{Answer, refused, accepted, answer}
use Rattle.bitio.specs.Lent.{pasted}
use Rattle.bitio.proofs.LentLaws.{pasted-nil, pasted-more, pasted_length}
use Rattle.bitio.specs.Limits.{capped}
use Rattle.obu.specs.Obu.{Obu, passes, obus, obu_bytes, unit_bytes}
use Rattle.bitio.specs.Refusal.{number}
use Rattle.bitio.specs.declared.refusal.Refusal.{Refusal}
use Rattle.obu.specs.Place.{extension_says, part}
use Rattle.obu.specs.Walk.{Walks, GivesObu}
use Rattle.obu.specs.declared.reader.Obu.{Obu as Found}
use Rattle.obu.specs.declared.obus.Obus.{Obus}
use Rattle.std.specs.Prelude.{Some, None, Result, Ok, Err, IsOk}
use Rattle.obu.specs.Write.{obu, obu_length}
use Rattle.obu.proofs.LengthLaws.{obu-length}
use Rattle.obu.proofs.ObuLaws.{infront}
use Rattle.obu.proofs.PlaceLaws.{IsPlaced, Walked, part_placed}
use Rattle.obu.proofs.WalkLaws.{Passed, passed_none, passed_one, passed_all, passed_stop}
use Rattle.obu.specs.Unit.{of_unit}
use Rattle.pictures.specs.Prepare.{renewed}
use Rattle.pictures.specs.Assemble.{verdict}
use Rattle.pictures.specs.Flat.{readable, answer_or}
use Rattle.pictures.specs.code.Rewrite.{obu_in, renewed_bytes, rewritten}

-- ---- the bytes of one OBU after the other

renewed-nil : (new : List ℕ) → renewed_bytes new [] ≡ []
unfolding renewed_bytes unit_bytes flat_map
renewed-nil new = refl

renewed-append : (new : List ℕ) (os ps : List Obu) → renewed_bytes new (os ++ ps) ≡ renewed_bytes new os ++ renewed_bytes new ps
unfolding renewed_bytes unit_bytes flat_map
renewed-append new [] ps = refl
renewed-append new (o ∷ os) ps =
    ap (λ (l : List ℕ). obu_bytes (renewed new o) ++ l) (renewed-append new os ps)
    ∙ sym (append_assoc (obu_bytes (renewed new o)) (renewed_bytes new os) (renewed_bytes new ps))

-- one more
renewed-one : (new : List ℕ) (o : Obu) → renewed_bytes new (o ∷ []) ≡ obu_bytes (renewed new o)
unfolding renewed_bytes unit_bytes flat_map
renewed-one new o = append-nil (obu_bytes (renewed new o))

renewed-next : (new : List ℕ) (os : List Obu) (o : Obu) → renewed_bytes new (os ++ (o ∷ [])) ≡ renewed_bytes new os ++ obu_bytes (renewed new o)
renewed-next new os o = renewed-append new os (o ∷ []) ∙ ap (λ (l : List ℕ). renewed_bytes new os ++ l) (renewed-one new o)

length-next : (new : List ℕ) (os : List Obu) (o : Obu) → length (renewed_bytes new (os ++ (o ∷ []))) ≡ length (renewed_bytes new os) + length (obu_bytes (renewed new o))
length-next new os o = ap length (renewed-next new os o) ∙ length-append (renewed_bytes new os) (obu_bytes (renewed new o))

-- the OBU that was found is the one that its numbers tell
pub found-is : {s : List ℕ} {at t : ℕ} {e : Option ℕ} {a b : ℕ} (g : IsPlaced s at t e a b) → record { type = t; ext = e; payload = part s a b } ≡ g.obu
found-is g = rw (← g.type, ← g.ext, part_placed g.placed)

-- ---- one OBU

-- its length as it goes out, by its payload's
pub renewed-length : (new : List ℕ) (o : Obu) {p : List ℕ} → p ≡ (renewed new o).payload → obu_length o.ext (length p) ≡ length (obu_bytes (renewed new o))
renewed-length new o e = ap (λ (l : List ℕ). obu_length o.ext (length l)) e ∙ sym (obu-length (renewed new o))

-- and as it is written
pub renewed-obu : (new : List ℕ) (o : Obu) {p : List ℕ} → p ≡ (renewed new o).payload → obu_bytes (obu o.type o.ext p) ≡ obu_bytes (renewed new o)
renewed-obu new o e = ap (λ (l : List ℕ). obu_bytes (obu o.type o.ext l)) e

-- ---- measuring

-- n bytes up to `at`
pub record Sizing (s new : List ℕ) (it : Obus) (n : ℕ) : Type 0 where
  pub front : List Obu
  pub passed : Passed s it front
  pub size : n ≡ capped (length (renewed_bytes new front))

pub size-start : (s new : List ℕ) {it : Obus} → Walks it s 0 (length s) → Sizing s new it 0
size-start s new w = record { front = []; passed = passed_none w; size = ap (λ (l : List ℕ). capped (length l)) (sym (renewed-nil new)) }

module _ {s new : List ℕ} {it : Obus} {n : ℕ} (m : Sizing s new it n) where
  pub size-next : (o : Found) (it' : Obus) → GivesObu it (Some (Ok o)) it' → (k r : ℕ) → k ≡ capped (length (obu_bytes (renewed new (obu_in s o))))
      → r ≡ capped (n + k) → Sizing s new it' r
  size-next o it' h k r l e =
      let (g, a, q) = passed_one m.passed o it' h in
      let l' : k ≡ capped (length (obu_bytes (renewed new g.obu))) = l ∙ ap (λ (x : Obu). capped (length (obu_bytes (renewed new x)))) (found-is g) in
      record { front = m.front ++ (g.obu ∷ []); passed = q; size = omega (arith, m.size, l', e, length-next new m.front g.obu) }

  pub size-end : (it' : Obus) → GivesObu it None it' → accepted n ≡ answer (λ os. capped (length (renewed_bytes new os))) (obus s)
  size-end it' h = rw (passed_all m.passed it' h) (ap accepted m.size)

  pub size-stop : (e : Refusal) (it' : Obus) → GivesObu it (Some (Err e)) it' → refused (number e) ≡ answer (λ os. capped (length (renewed_bytes new os))) (obus s)
  size-stop e it' h = rw (passed_stop m.passed e it' h)

-- the same of a unit; one that is refused has none
pub size-or : (s new : List ℕ) → answer_or 0 (answer (λ os. capped (length (renewed_bytes new os))) (obus s)) ≡ capped (length (rewritten new s))
unfolding rewritten
size-or s new = go (obus s)
  where
    go : (x : Answer (List Obu)) → answer_or 0 (answer (λ os. capped (length (renewed_bytes new os))) x) ≡ capped (length (of_unit [] (renewed_bytes new) x))
    go (refused k) = refl
    go (accepted os) = refl

-- ---- writing

-- a unit that is read through has OBUs
reads-through : (x : Answer (List Obu)) → verdict x ≡ accepted tt → (os : List Obu) × (x ≡ accepted os)
reads-through (refused k) e = let z : ◌≡◌ {A = ℕ} 0 1 = cc in absurd (omega arith)
reads-through (accepted os) e = (os, refl)

-- OBUs are written from w on; lent memory d is o
pub record PuttingRewritten (s new d : List ℕ) (w : ℕ) (it : Obus) (to : ℕ) (o : List ℕ) : Type 0 where
  pub all : List Obu
  pub reads : obus s ≡ accepted all
  pub room : w + length (renewed_bytes new all) ≤ length d
  pub front : List Obu
  pub passed : Passed s it front
  pub next : to ≡ w + length (renewed_bytes new front)
  pub lent : o ≡ pasted d w (renewed_bytes new front)

-- what was walked is a front of what was read
walked-front : {s : List ℕ} {at : ℕ} {front all : List Obu} → Walked s at front → obus s ≡ accepted all → (rest : List Obu) × (all ≡ front ++ rest)
walked-front {s} {at} {front} {all} w e = go (obus (drop at s)) (sym e ∙ w.whole)
  where
    go : (x : Answer (List Obu)) → accepted all ≡ infront front x → (rest : List Obu) × (all ≡ front ++ rest)
    go (refused k) q = let z : ◌≡◌ {A = ℕ} 0 1 = cc in absurd (omega arith)
    go (accepted l) q = (l, cc)

-- its bytes are no more
front-most : (new : List ℕ) {s : List ℕ} {at : ℕ} {front all : List Obu} → Walked s at front → obus s ≡ accepted all → length (renewed_bytes new front) ≤ length (renewed_bytes new all)
front-most new {front = front} w e =
    let (rest, q) = walked-front w e in
    omega (arith, ap (λ (os : List Obu). length (renewed_bytes new os)) q, ap length (renewed-append new front rest), length-append (renewed_bytes new front) (renewed_bytes new rest))

pub rewrite-start : (s new d : List ℕ) (w : ℕ) {it : Obus} → Walks it s 0 (length s) → readable true s ≡ accepted tt → w + length (rewritten new s) ≤ length d
    → PuttingRewritten s new d w it w d
unfolding rewritten
rewrite-start s new d w i r h =
    let (all, e) = reads-through (obus s) r in
    let n = renewed-nil new in
    record {
      all = all;
      reads = e;
      room = rw e at h;
      front = [];
      passed = passed_none i;
      next = omega (arith, ap length n);
      lent = sym (ap (pasted d w) n ∙ pasted-nil d w);
    }

module _ {s new d : List ℕ} {w : ℕ} {it : Obus} {to : ℕ} {o : List ℕ} (m : PuttingRewritten s new d w it to o) where
  pub rewrite-long : length o ≡ length d
  rewrite-long = ap length m.lent ∙ pasted_length d w (renewed_bytes new m.front) (omega (arith, m.room, front-most new m.passed.walked m.reads))

  -- what is given is no refusal
  pub rewrite-ok : (r : Result Found Refusal) (it' : Obus) → GivesObu it (Some r) it' → IsOk r
  rewrite-ok (Ok x) it' h = refl
  rewrite-ok (Err e) it' h = let k = passed_stop m.passed e it' h in let r = m.reads in let z : ◌≡◌ {A = ℕ} 0 1 = cc in absurd (omega arith)

  pub rewrite-end : (it' : Obus) → GivesObu it None it' → (to ≡ w + length (rewritten new s)) × (o ≡ pasted d w (rewritten new s))
  unfolding rewritten
  rewrite-end it' h = rw (passed_all m.passed it' h) (m.next, m.lent)

  module _ (x : Found) (it' : Obus) (h : GivesObu it (Some (Ok x)) it') where
    abbrev turned : (g : IsPlaced s it.at x.obu_type (extension_says x.extension) x.start x.end) × (it'.at ≡ x.end) × Passed s it' (m.front ++ (g.obu ∷ []))
    turned = passed_one m.passed x it' h

    pub rewrite-passes : passes x.obu_type ≡ true
    rewrite-passes = let g = turned.0 in rw g.type at g.placed.passing

    abbrev bytes : List ℕ
    bytes = obu_bytes (renewed new (obu_in s x))

    bytes-is : bytes ≡ obu_bytes (renewed new turned.0.obu)
    bytes-is = ap (λ (y : Obu). obu_bytes (renewed new y)) (found-is turned.0)

    pub rewrite-room : to + length bytes ≤ length o
    rewrite-room =
        omega (arith, m.room, m.next, rewrite-long, ap length bytes-is, length-next new m.front turned.0.obu, front-most new turned.2.walked m.reads)

    pub rewrite-next : {v : ℕ} {n : List ℕ} → (v ≡ to + length bytes) × (n ≡ pasted o to bytes) → PuttingRewritten s new d w it' v n
    rewrite-next {v} {n} y =
        let f = renewed_bytes new m.front in
        let c = obu_bytes (renewed new turned.0.obu) in
        let k = front-most new m.passed.walked m.reads in
        record {
          all = m.all;
          reads = m.reads;
          room = m.room;
          front = m.front ++ (turned.0.obu ∷ []);
          passed = turned.2;
          next = omega (arith, y.0, m.next, ap length bytes-is, length-next new m.front turned.0.obu);
          lent =
              y.1 ∙ ap (pasted o to) bytes-is ∙ ap₂ (λ (l : List ℕ) (i : ℕ). pasted l i c) m.lent m.next ∙ pasted-more d w f (omega (arith, m.room)) c
              ∙ ap (pasted d w) (sym (renewed-next new m.front turned.0.obu));
        }

-- Laws of a unit's scan: a walk over the OBUs, and which sequence header is taken.
use Prim.Native.Nat.{ℕ, ◌≤◌, ◌<◌}
use native.Mathlib.Omega.{arith}
use mathlib.Core.Path.{◌≡◌, refl, sym, ap, ◌∙◌}
use mathlib.Core.List.{List, [], ◌∷◌, ◌++◌}
use mathlib.Core.Bool.{Bool, true, false, cond as pick}
use lib.Dec.{leb}
use borrow.Author.Tests.{le-leb, lt-leb}
use lib.ListN.{drop}
use Rattle.std.specs.Prelude.{Some, None, Result, Ok, Err}
use Rattle.std.specs.Result.{result_unwrap_or}
use Rattle.bitio.specs.Refusal.{says}
use Rattle.bitio.specs.declared.refusal.Refusal.{Refusal}
use Rattle.std.specs.Option.{option_or}
use Rattle.bitio.specs.Parse.{Answer, refused, accepted, answer, and_next}
use Rattle.obu.specs.Obu.{Obu, obus}
use Rattle.obu.specs.Unit.{is_sequence, is_frame, count, has, first_payload, of_unit, sequence_payload}
use Rattle.bitio.proofs.ParseLaws.{next-none}
use Rattle.obu.proofs.ObuLaws.{infront}
use Rattle.obu.proofs.PlaceLaws.{Walked}
use Rattle.obu.proofs.UnitLaws.{has-count}
use Rattle.geometry.specs.declared.slots.RefSlot.{RefSlot}
use Rattle.uheader.specs.Scan.{scan_payloads, slots_after}
use Rattle.uheader.specs.declared.scan.HeaderScan.{HeaderScan}
use Rattle.boardscan.specs.Scans.{Behind, scan_frame, scan_obus, sized, scan_all, scan_under, is_read, has_header, header_for, scan_unit}
use Rattle.boardscan.specs.declared.scan.Left.{Left}

-- ---- one OBU more

module _ (q : List ℕ) where
  obus-append : (front os : List Obu) (b : Behind) → scan_obus q b (front ++ os) ≡ and_next (scan_obus q b front) (λ c. scan_obus q c os)
  unfolding scan_obus and_next
  obus-append [] os b = refl
  obus-append (x ∷ xs) os b = go (is_frame x) (scan_frame q x.payload b) (obus-append xs os)
    where
      go : (t : Bool) (a : Answer Behind) → ((b : Behind) → scan_obus q b (xs ++ os) ≡ and_next (scan_obus q b xs) (λ c. scan_obus q c os))
          → pick t (and_next a (λ c. scan_obus q c (xs ++ os))) (scan_obus q b (xs ++ os))
          ≡ and_next (pick t (and_next a (λ c. scan_obus q c xs)) (scan_obus q b xs)) (λ c. scan_obus q c os)
      go false a ih = ih b
      go true (refused n) ih = refl
      go true (accepted c) ih = ih c

  module _ (b₀ : Behind) {b : Behind} (front : List Obu) (o : Obu) (h : accepted b ≡ scan_obus q b₀ front) where
    one_more : scan_obus q b₀ (front ++ (o ∷ [])) ≡ scan_obus q b (o ∷ [])
    unfolding and_next
    one_more = rw (← h) at (obus-append front (o ∷ []) b₀)

    pub turn-other : is_frame o ≡ false → accepted b ≡ scan_obus q b₀ (front ++ (o ∷ []))
    unfolding scan_obus
    turn-other t = sym (one_more ∙ rw t)

    frame_more : is_frame o ≡ true → scan_obus q b₀ (front ++ (o ∷ [])) ≡ scan_frame q o.payload b
    unfolding scan_obus
    frame_more t = one_more ∙ rw t (next-none (scan_frame q o.payload b))

    pub turn-frame : {x : HeaderScan} {after : List RefSlot} → is_frame o ≡ true → accepted x ≡ scan_payloads q b.slots o.payload
        → after ≡ slots_after b.slots (scan_payloads q b.slots o.payload)
        → accepted (record { first = option_or b.first (Some x.size); slots = after }) ≡ scan_obus q b₀ (front ++ (o ∷ []))
    unfolding scan_frame and_next
    turn-frame t e k = sym (frame_more t ∙ rw (k, ← e))

    pub turn-refused : {k : ℕ} → is_frame o ≡ true → refused k ≡ scan_payloads q b.slots o.payload → refused k ≡ scan_obus q b₀ (front ++ (o ∷ []))
    unfolding scan_frame and_next
    turn-refused t e = sym (frame_more t ∙ rw (← e))

-- ---- a unit

module _ (q : List ℕ) (slots : List RefSlot) (u : List ℕ) where
  abbrev none_yet : Behind
  none_yet = record { first = None; slots = slots }

  -- a refusal of its OBUs
  pub under-refused : (k : ℕ) → obus u ≡ refused k → refused k ≡ scan_under q slots u
  unfolding scan_under and_next
  under-refused k e = rw e

  -- all OBUs
  pub under-whole : (b : Behind) (front : List Obu) → obus u ≡ accepted front → accepted b ≡ scan_obus q none_yet front → sized b ≡ scan_under q slots u
  unfolding scan_under and_next
  under-whole b front w h = rw (w, ← h)

  -- a refusal of a frame, where the OBUs were read
  pub under-stopped : (k at : ℕ) (front : List Obu) → is_read u ≡ true → Walked u at front → refused k ≡ scan_obus q none_yet front
      → refused k ≡ scan_under q slots u
  unfolding scan_under and_next
  under-stopped k at front e w h = go (obus (drop at u)) w.whole
    where
      go : (y : Answer (List Obu)) → obus u ≡ infront front y → refused k ≡ scan_under q slots u
      go (refused j) d = let r = rw d at e in let z : ◌≡◌ {A = ℕ} 0 1 = cc in absurd (omega arith)
      go (accepted rest) d = rw (d, obus-append q front rest none_yet, ← h)

-- what is counted tells whether the OBUs are refused
pub counted_refused : (p : Obu → Bool) (k : ℕ) (x : Answer (List Obu)) → refused k ≡ answer (count p) x → x ≡ refused k
counted_refused p k (refused j) e = let i : j ≡ k = cc in ap (λ y. refused y) i
counted_refused p k (accepted os) e = let z : ◌≡◌ {A = ℕ} 0 1 = cc in absurd (omega arith)

-- ---- the sequence header

pub counted_has : (r : Result ℕ Refusal) (x : Answer (List Obu)) → says r ≡ answer (count is_sequence) x → leb 1 (result_unwrap_or r 0) ≡ of_unit false (has is_sequence) x
counted_has (Err e) (refused k) h = refl
counted_has (Err e) (accepted os) h = let z : ◌≡◌ {A = ℕ} 0 1 = cc in absurd (omega arith)
counted_has (Ok n) (refused k) h = let z : ◌≡◌ {A = ℕ} 0 1 = cc in absurd (omega arith)
counted_has (Ok n) (accepted os) h = let i : n ≡ count is_sequence os = cc in ap (leb 1) i ∙ has-count is_sequence os

-- the same of a unit whose sequence headers were counted
pub counted_own : (n : ℕ) (x : Answer (List Obu)) → accepted n ≡ answer (count is_sequence) x → 1 ≤ n → of_unit false (has is_sequence) x ≡ true
counted_own n x e h = sym (counted_has (Ok n) x e) ∙ le-leb 1 n h

pub counted_none : (n : ℕ) (x : Answer (List Obu)) → accepted n ≡ answer (count is_sequence) x → n < 1 → of_unit false (has is_sequence) x ≡ false
counted_none n x e h = sym (counted_has (Ok n) x e) ∙ lt-leb 1 n h

module _ (lead : List ℕ) (slots : List RefSlot) (u : List ℕ) where
  -- scan_unit, from the unit's OBUs on
  abbrev taken : Answer (List Obu) → Answer Left
  taken x = and_next x (λ os. and_next (header_for lead os) (λ q. scan_all q slots os))

  pub scan-own : {q : List ℕ} → q ≡ sequence_payload u → has_header u ≡ true → scan_under q slots u ≡ scan_unit lead slots u
  unfolding scan_under scan_unit header_for and_next
  scan-own e t = ap (λ q. scan_under q slots u) e ∙ go (obus u) t
    where
      go : (x : Answer (List Obu)) → of_unit false (has is_sequence) x ≡ true → and_next x (scan_all (of_unit [] (first_payload is_sequence) x) slots) ≡ taken x
      go (refused k) t = refl
      go (accepted os) t = rw t

  pub scan-led : {q : List ℕ} → q ≡ sequence_payload lead → has_header u ≡ false → has_header lead ≡ true → scan_under q slots u ≡ scan_unit lead slots u
  unfolding scan_under scan_unit header_for and_next
  scan-led e t l = ap (λ q. scan_under q slots u) e ∙ go (obus u) t
    where
      go : (x : Answer (List Obu)) → of_unit false (has is_sequence) x ≡ false → and_next x (scan_all (sequence_payload lead) slots) ≡ taken x
      go (refused k) t = refl
      go (accepted os) t = rw (t, l)

  -- no sequence header is at hand, and the unit's OBUs are counted or refused
  pub scan-headless : (p : Obu → Bool) (n : ℕ) → has_header u ≡ false → has_header lead ≡ false → accepted n ≡ answer (count p) (obus u) → refused 26 ≡ scan_unit lead slots u
  unfolding scan_unit header_for and_next
  scan-headless p n t l e = go (obus u) t e
    where
      go : (x : Answer (List Obu)) → of_unit false (has is_sequence) x ≡ false → accepted n ≡ answer (count p) x → refused 26 ≡ taken x
      go (refused k) t e = let z : ◌≡◌ {A = ℕ} 0 1 = cc in absurd (omega arith)
      go (accepted os) t e = rw (t, l)

  pub unit-refused : (k : ℕ) → obus u ≡ refused k → refused k ≡ scan_unit lead slots u
  unfolding scan_unit and_next
  unit-refused k e = rw e

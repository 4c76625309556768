-- Laws of units as they go out: which are copied, and which are rewritten.
use Prim.Native.Nat.{ℕ, ◌≤◌}
use native.Mathlib.Omega.{arith}
use mathlib.Core.Path.{◌≡◌, refl, sym, ap, ◌∙◌}
use mathlib.Core.List.{List, []}
use mathlib.Core.Bool.{true, false, cond as pick}
use mathlib.Core.Option.{Option, none, some}
use lib.Dec.{leb}
use borrow.Author.Tests.{le-leb}
use Rattle.std.specs.Prelude.{Option as Optional, Some, None, is_some}
use Rattle.std.specs.Borrow.{Bor}
use Rattle.bitio.specs.Parse.{Answer, refused, accepted, answer, and_next}
use Rattle.obu.specs.Obu.{Obu, obus}
use Rattle.obu.specs.Unit.{count, has, of_unit, is_sequence}
use Rattle.obu.proofs.UnitLaws.{has-count}
use Rattle.pictures.specs.Prepare.{sent}
use Rattle.pictures.specs.Assemble.{verdict}
use Rattle.pictures.specs.Flat.{readable, lent, rewriting, answer_or, sent_bytes}
use Rattle.pictures.specs.code.Rewrite.{renewed_bytes, rewritten}

module _ (new u : List ℕ) where
  -- what goes out of the OBUs of u
  abbrev outgoing : Answer (List Obu) → List ℕ
  outgoing x = answer_or [] (and_next x (λ os. accepted (pick (has is_sequence os) (renewed_bytes new os) u)))

  no-sequence : (x : Answer (List Obu)) → answer (count is_sequence) x ≡ accepted 0 → outgoing x ≡ u
  unfolding and_next
  no-sequence (refused k) e = let z : ◌≡◌ {A = ℕ} 0 1 = cc in absurd (omega arith)
  no-sequence (accepted os) e =
      let c : count is_sequence os ≡ 0 = cc in
      let h : has is_sequence os ≡ false = sym (has-count is_sequence os) ∙ ap (leb 1) c in
      rw h

  some-sequence : (n : ℕ) → 1 ≤ n → (x : Answer (List Obu)) → answer (count is_sequence) x ≡ accepted n → (outgoing x ≡ of_unit [] (renewed_bytes new) x) × (verdict x ≡ accepted tt)
  unfolding and_next
  some-sequence n l (refused k) e = let z : ◌≡◌ {A = ℕ} 0 1 = cc in absurd (omega arith)
  some-sequence n l (accepted os) e =
      let c : count is_sequence os ≡ n = cc in
      let h : has is_sequence os ≡ true = sym (has-count is_sequence os) ∙ le-leb 1 (count is_sequence os) (omega arith) in
      (rw h, refl)

  nothing_read : (k : ℕ) (x : Answer (List Obu)) → answer (count is_sequence) x ≡ refused k → outgoing x ≡ []
  unfolding and_next
  nothing_read k (refused j) e = refl
  nothing_read k (accepted os) e = let z : ◌≡◌ {A = ℕ} 0 1 = cc in absurd (omega arith)

  module _ {renewal : Option (List ℕ)} (on : renewal ≡ some new) where
    pub sent-refused : (k : ℕ) → answer (count is_sequence) (obus u) ≡ refused k → sent_bytes renewal u ≡ []
    unfolding sent renewed_bytes
    sent-refused k e = rw on (nothing_read k (obus u) e)

    pub sent-copied : (n : ℕ) → n ≡ 0 → answer (count is_sequence) (obus u) ≡ accepted n → sent_bytes renewal u ≡ u
    unfolding sent renewed_bytes
    sent-copied n z e = rw on (no-sequence (obus u) (e ∙ ap accepted z))

    pub sent-rewritten : (n : ℕ) → (n ≡ 0 → ⊥) → answer (count is_sequence) (obus u) ≡ accepted n → (sent_bytes renewal u ≡ rewritten new u) × (readable true u ≡ accepted tt)
    unfolding sent renewed_bytes rewritten
    sent-rewritten n l e = let (a, b) = some-sequence n (omega (arith, l)) (obus u) e in (rw on a, b)

pub sent-plain : (u : List ℕ) {renewal : Option (List ℕ)} → renewal ≡ none → sent_bytes renewal u ≡ u
unfolding sent
sent-plain u e = rw e

-- whether units are rewritten, of a payload that is lent
pub lent_rewriting : (renewal : Optional (Bor (List ℕ))) → is_some renewal ≡ rewriting (lent renewal)
lent_rewriting None = refl
lent_rewriting (Some new) = refl

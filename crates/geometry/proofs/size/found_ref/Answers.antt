use Rattle.std.proofs.Common.{◌≡◌, ℕ, zero, suc, ◌+◌, List, Some, None, cond as pick, get_or, refl, sym, ◌∙◌, arith, rules}
use Rattle.bitio.specs.Bits.{reads, and_then}
use Rattle.bitio.specs.Fields.{read_flag}
use Rattle.syntax.specs.Syntax.{run}
use Rattle.syntax.specs.Repeat.{repeat}
use Rattle.syntax.proofs.FlagLaws.{flag_then}
use Rattle.syntax.proofs.RepeatLaws.{next, end}
use Rattle.geometry.specs.Size.{found_ref}
use Rattle.geometry.proofs.size.found_ref.Goals as goal

turn : (refs s : List ℕ) (i p : ℕ) → run (found_ref refs i None) s p ≡ and_then (read_flag s p) (λ found q. reads (pick found (Some (get_or refs i 0)) None) q)
unfolding run found_ref
turn refs s i p = sym (flag_then s p (λ found q. reads (pick found (Some (get_or refs i 0)) None) q))

-- behind the reference that was found nothing is read
found_stays : (refs s : List ℕ) (n i x p : ℕ) → run (repeat (found_ref refs) i n (Some x)) s p ≡ reads (Some x) p
unfolding run repeat found_ref
found_stays refs s zero i x p = refl
found_stays refs s (suc n) i x p = found_stays refs s n (i + 1) x p

pub returns-in_err-found : goal.returns-in_err-found
returns-in_err-found c =
    let z = rw (turn _ _ _ _, ← c.in_err-found.ensures) at (next c.loop-slot.invariant (omega arith)) in
    search (rules, z)

pub returns-then-found : goal.returns-then-found
returns-then-found c =
    let z = rw (turn _ _ _ _, ← c.in_ok-found.ensures, c.if-found.true) at (next c.loop-slot.invariant (omega arith)) in
    sym (found_stays _ _ _ _ _ _) ∙ z

pub loop-slot-preserved : goal.loop-slot-preserved
loop-slot-preserved c =
    record { same = rw (turn _ _ _ _, ← c.in_ok-found.ensures, c.if-found.false) at (next c.loop-slot.invariant (omega arith)) }

pub returns : goal.returns
returns c = end c.loop-slot.invariant (omega arith)

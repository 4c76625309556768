-- Laws of the slot that show units name. What holds of each of the 256 flags is computed, so that no proof depends on which slot it is.
use Prim.Native.Nat.{ℕ, zero, suc, ◌/◌, ◌%◌, ◌^◌, ◌<◌}
use native.Mathlib.Omega.{arith}
use mathlib.Core.Path.{◌≡◌, refl, ap₂, subst, ◌∙◌}
use mathlib.Core.List.{List, []}
use mathlib.Core.Bool.{Bool, true, false, cond as pick, ◌&&◌}
use lib.ListN.{get_or}
use lib.Dec.{T, eqb, ltb, eqb→eq, ltb→lt}
use borrow.Author.Tests.{ltb-true, ltb-false, ne_eqb}
use Rattle.pictures.specs.Prepare.{slot_of}

-- ---- a test of each number below n

abbrev all_below : ℕ → (ℕ → Bool) → Bool
all_below zero test = true
all_below (suc n) test = all_below n test && test n

both : (a b : Bool) → T (a && b) → T a × T b
both true b t = (tt, t)
both false b t = absurd t

each_below : (n : ℕ) (test : ℕ → Bool) → T (all_below n test) → (k : ℕ) → k < n → T (test k)
each_below zero test t k h = absurd (omega arith)
each_below (suc n) test t k h = go (each_below n test (both (all_below n test) (test n) t).0 k) (ltb k n) refl
  where
    go : (k < n → T (test k)) → (b : Bool) → ltb k n ≡ b → T (test k)
    go before true e = before (ltb-true k n e)
    go before false e =
        let l = ltb-false k n e in
        let i : n ≡ k = omega arith in
        subst (λ (j : ℕ). T (test j)) i (both (all_below n test) (test n) t).1

-- ---- the slot of eight flags

pub record Refreshed (flags : ℕ) : Type 0 where
  pub below : slot_of flags < 8
  pub set : flags / 2 ^ slot_of flags % 2 ≡ 1

is_refreshed : ℕ → Bool
is_refreshed f = pick (eqb f 0) true (ltb (slot_of f) 8 && eqb (f / 2 ^ slot_of f % 2) 1)

-- flags other than 0 have the bit of the slot that they name
pub slot-refreshed : (flags : ℕ) → 0 < flags → flags < 256 → Refreshed flags
unfolding slot_of is_refreshed
slot-refreshed flags h k =
    let some : eqb flags 0 ≡ false = ne_eqb flags 0 (λ e. omega arith) in
    let t = subst (λ (b : Bool). T (pick b true (ltb (slot_of flags) 8 && eqb (flags / 2 ^ slot_of flags % 2) 1))) some (each_below 256 is_refreshed tt flags k) in
    let p = both (ltb (slot_of flags) 8) (eqb (flags / 2 ^ slot_of flags % 2) 1) t in
    record { below = ltb→lt (slot_of flags) 8 p.0; set = eqb→eq (flags / 2 ^ slot_of flags % 2) 1 p.1 }

-- of more bits than eight the low ones count
slot-low : (flags : ℕ) → slot_of (flags % 256) ≡ slot_of flags
unfolding slot_of
slot-low flags = let e : flags % 256 % 256 ≡ flags % 256 = omega arith in rw e

-- ---- the table, sixteen rows of sixteen

abbrev entry_at : List (List ℕ) → ℕ → ℕ → ℕ
entry_at table i j = get_or (get_or table i []) j 0

-- 02: entry f is the slot of f
abbrev is_entry : List (List ℕ) → ℕ → Bool
is_entry table f = eqb (entry_at table (f / 16) (f % 16)) (slot_of f)

pub looked-up : (table : List (List ℕ)) → T (all_below 256 (is_entry table)) → (flags : ℕ) → entry_at table (flags / 16 % 16) (flags % 16) ≡ slot_of flags
looked-up table right flags =
    let f = flags % 256 in
    let i : flags / 16 % 16 ≡ f / 16 = omega arith in
    let j : flags % 16 ≡ f % 16 = omega arith in
    ap₂ (entry_at table) i j ∙ eqb→eq (entry_at table (f / 16) (f % 16)) (slot_of f) (each_below 256 (is_entry table) right f (omega arith)) ∙ slot-low flags

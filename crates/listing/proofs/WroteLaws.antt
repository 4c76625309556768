-- Laws of text put into lent memory, one piece behind the other.
use Prim.Native.Nat.{ℕ, suc, ◌+◌, ◌≤◌, ◌<◌}
use native.Mathlib.Omega.{arith}
use mathlib.Core.Path.{◌≡◌, sym, ap, ap₂, ◌∙◌}
use mathlib.Core.List.{List, [], ◌∷◌, ◌++◌, append_assoc}
use lib.ListN.{length, take, drop, set, length-append}
use lib.Seq.{length-take-le, take-set-le, drop_at, set_split}
use Rattle.bitio.specs.Parse.{accepted, refused}
use Rattle.bitio.specs.Lent.{pasted, Wrote, placed, lent}
use Rattle.bitio.proofs.LentLaws.{pasted-set, placed-room, placed-full, placed-says-room, lent-room, lent-full}

-- what a store behind xs, made before xs, comes to
pub pasted_behind : (d : List ℕ) (w : ℕ) (xs : List ℕ) (i a : ℕ) → i ≡ w + length xs → i < length d → pasted (set d i a) w xs ≡ pasted d w (xs ++ (a ∷ []))
unfolding pasted
pasted_behind d w xs i a e h =
    let n : w + length (xs ++ (a ∷ [])) ≡ suc i = omega (arith, length-append xs (a ∷ [])) in
    let t : take w (set d i a) ≡ take w d = take-set-le w d i a (omega arith) in
    let r : drop (w + length xs) (set d i a) ≡ a ∷ drop (suc i) d =
    ap (λ (k : ℕ). drop k (set d i a)) (sym e) ∙ ap (drop i) (set_split d i a h) ∙ drop_at (take i d) (a ∷ drop (suc i) d) i (length-take-le i d (omega arith)) in
    ap₂ (λ (l m : List ℕ). l ++ (xs ++ m)) t r
    ∙ ap (λ (l : List ℕ). take w d ++ l) (sym (append_assoc xs (a ∷ []) (drop (suc i) d)))
    ∙ ap (λ (k : ℕ). take w d ++ ((xs ++ (a ∷ [])) ++ drop k d)) (sym n)

module _ {d d' : List ℕ} {at r : ℕ} {xs : List ℕ} (w : Wrote d at xs r d') where
  -- a store behind it
  pub wrote_store : (a : ℕ) → at + length xs < length d → Wrote d at (xs ++ (a ∷ [])) (r + 1) (set d' r a)
  wrote_store a h =
      record {
        next = omega (arith, w.next, length-append xs (a ∷ []));
        out = ap₂ (λ (l : List ℕ) (k : ℕ). set l k a) w.out w.next ∙ pasted-set d at xs a h;
      }

-- all of a text, at the head of lent memory that has room for it
pub all_placed : {r : ℕ} {d' : List ℕ} (d xs : List ℕ) → Wrote d 0 xs r d' → length xs ≤ length d → accepted r ≡ placed d 0 xs
all_placed d xs w h = ap accepted w.next ∙ sym (placed-room d 0 xs (omega arith))

pub all_lent : {r : ℕ} {d' : List ℕ} (d xs : List ℕ) → Wrote d 0 xs r d' → length xs ≤ length d → d' ≡ lent d 0 xs
all_lent d xs w h = w.out ∙ sym (lent-room d 0 xs (omega arith))

-- and where there is no room
pub none_placed : (d xs : List ℕ) → length d < length xs → refused 35 ≡ placed d 0 xs
none_placed d xs h = sym (placed-full d 0 xs (omega arith))

pub none_lent : (d xs : List ℕ) → length d < length xs → d ≡ lent d 0 xs
none_lent d xs h = sym (lent-full d 0 xs (omega arith))

-- a text put at the head of lent memory ends within it
pub ends_within : (d xs : List ℕ) (end : ℕ) → accepted end ≡ placed d 0 xs → end ≤ length d
ends_within d xs end e = let h = placed-says-room d 0 xs end (sym e) in omega (arith, h.0, h.1)

-- what putting bytes says
pub wrote : {d d' : List ℕ} {at r : ℕ} {xs : List ℕ} → (r ≡ at + length xs) × (d' ≡ pasted d at xs) → Wrote d at xs r d'
wrote w = record { next = w.0; out = w.1 }

-- What a syntax was read as, part by part, and what all that it gives has in common.
use Prim.Native.Nat.{ℕ}
use mathlib.Core.Path.{◌≡◌, subst}
use mathlib.Core.List.{List}
use mathlib.Core.Bool.{true, ◌&&◌, cond as pick}
use lib.Dec.{ltb}
use Rattle.bitio.specs.Bits.{reads, read_bits}
use Rattle.syntax.specs.Syntax.{Syntax, done, field, refuse, branch, run}
use Rattle.uheader.proofs.ReadingLaws.{then-was, pick-was}

-- a section, and what followed it
pub sub-was : {A B : Type 0} {C : Type 0} (x y : Syntax B) (k : B → Syntax A) (s : List ℕ) (p : ℕ) {a : A} {r : ℕ} → run (branch true x y k) s p ≡ reads a r
    → ((b : B) (q : ℕ) → run x s p ≡ reads b q → run (k b) s q ≡ reads a r → C) → C
unfolding run
sub-was x y k s p e f = then-was (run x s p) (λ b q. run (k b) s q) e f

-- whatever is read, P holds of the outcome
abbrev pub Gives : {A : Type 0} → (A → Type 0) → Syntax A → Type 0
Gives P (done a) = P a
Gives P (field on n k) = (v : ℕ) → Gives P (k v)
Gives P (refuse t n k) = Gives P k
Gives {A} P (branch {B = B} t x y k) = (b : B) → Gives P (k b)

pub gives : {A : Type 0} (P : A → Type 0) (f : Syntax A) → Gives P f → (s : List ℕ) (p : ℕ) {a : A} {r : ℕ} → run f s p ≡ reads a r → P a
unfolding run
gives P (done b) g s p e = subst P (cc) g
gives P (field on n k) g s p e = then-was (pick on (read_bits s p n) (reads 0 p)) _ e (λ v q _ e. gives P (k v) (g v) s q e)
gives P (refuse t n k) g s p e = pick-was (ltb 0 n && t) n (run k s p) e (λ _ e. gives P k g s p e)
gives P (branch t x y k) g s p e = then-was (pick t (run x s p) (run y s p)) _ e (λ b q _ e. gives P (k b) (g b) s q e)

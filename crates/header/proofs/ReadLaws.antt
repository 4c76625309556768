-- Laws of reading one thing after another at a bit position.
use Prim.Native.Nat.{ℕ, ◌<◌, ◌^◌}
use mathlib.Core.Path.{◌≡◌, ap, ◌∙◌}
use mathlib.Core.List.{List}
use mathlib.Core.Bool.{Bool, true, false, cond as pick}
use Rattle.bitio.specs.Bits.{Reading, fails, reads, and_then, read_bits}
use Rattle.bitio.specs.Fields.{read_or}
use Rattle.bitio.proofs.BitLaws.{IsBits, is-bits}

-- x goes by a test whose outcome is known
pub at_test : {A : Type 0} {x : A} {t t' : Bool} (a b : A) → x ≡ pick t a b → t ≡ t' → x ≡ pick t' a b
at_test a b q p = q ∙ ap (λ y. pick y a b) p

-- ---- what holds of what was read

abbrev pub Holds : {A : Type 0} → (A → Type 0) → Reading A → Type 0
Holds P (fails k) = Unit {0}
Holds P (reads a p) = P a

-- it follows from what holds of the first thing read
pub then-holds : {A B : Type 0} (P : A → Type 0) (Q : B → Type 0) (x : Reading A) (k : A → ℕ → Reading B)
    → Holds P x → ((a : A) (p : ℕ) → P a → Holds Q (k a p)) → Holds Q (and_then x k)
then-holds P Q (fails n) k h f = tt
then-holds P Q (reads a p) k h f = f a p h

-- it does not matter what the first thing read is
pub then-any : {A B : Type 0} (Q : B → Type 0) (x : Reading A) (k : A → ℕ → Reading B)
    → ((a : A) (p : ℕ) → Holds Q (k a p)) → Holds Q (and_then x k)
then-any Q (fails n) k f = tt
then-any Q (reads a p) k f = f a p

-- f(n) has its width
pub bits-lt : (s : List ℕ) (p n : ℕ) → Holds (λ v. v < 2 ^ n) (read_bits s p n)
bits-lt s p n = go (read_bits s p n) (is-bits s p n)
  where
    go : (x : Reading ℕ) → IsBits p n x → Holds (λ v. v < 2 ^ n) x
    go (fails k) h = tt
    go (reads v q) h = h.0

-- and where it is there on a condition, too
pub or_lt : (s : List ℕ) (p : ℕ) (on : Bool) (n other : ℕ) → other < 2 ^ n → Holds (λ v. v < 2 ^ n) (read_or s p on n other)
unfolding read_or
or_lt s p true n other h = bits-lt s p n
or_lt s p false n other h = h

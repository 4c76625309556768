-- Laws of text typed into a buffer, and of values as text.
use mathlib.Core.Path.{◌≡◌, refl, sym, ap, ◌∙◌}
use mathlib.Core.List.{List, [], ◌∷◌, ◌++◌}
use Prim.Native.Nat.{ℕ, zero, suc, ◌+◌, ◌-◌, ◌/◌, ◌%◌, ◌^◌, ◌≤◌, ◌<◌}
use native.Mathlib.Omega.{arith}
use native.Mathlib.Decide.{dec_le}
use native.Mathlib.Nat.{one-le-pow, pow-le-pow_right}
use borrow.Author.Tests.{lt-ltb, le-ltb}
use Rattle.io.specs.Digits.{last_digits, IsDigitCount}
use Rattle.std.proofs.lemmas.List.{take_more}
use Rattle.protocol.specs.Text.{hex_digit, hex_text}
use lib.ListN.{length, get_or, take}
use Rattle.protocol.specs.Typed.{typed_one, typed, places_in, decimal_text}
use Rattle.protocol.specs.declared.output.Output.{Output}

-- ---- the buffer

-- text typed behind text is both
pub typed_more : (t : Output) (a b : List ℕ) → typed (typed t a) b ≡ typed t (a ++ b)
unfolding typed
typed_more t [] b = refl
typed_more t (c ∷ a) b = typed_more (typed_one t c) a b

-- the same of two calls, one behind the other
pub typed_both : (t : Output) (a b : List ℕ) {c : List ℕ} {u v : Output} → u ≡ typed t a → v ≡ typed u b → a ++ b ≡ c → v ≡ typed t c
typed_both t a b p q e = q ∙ ap (λ (x : Output). typed x b) p ∙ typed_more t a b ∙ ap (λ (l : List ℕ). typed t l) e

-- one character more
pub typed_next : (t : Output) (s : List ℕ) (i : ℕ) → i < length s → typed t (take (i + 1) s) ≡ typed (typed t (take i s)) (get_or s i 0 ∷ [])
typed_next t s i h = rw (take_more s i 0 h) (sym (typed_more t (take i s) (get_or s i 0 ∷ [])))

-- ---- numbers

-- the fewest digits that hold a number are as many as it has
places : (f k n : ℕ) → k ≤ f → n < 10 ^ suc k → (1 < suc k → 10 ^ k ≤ n) → places_in f n ≡ suc k
unfolding places_in
places zero zero n h l m = refl
places (suc f) zero n h l m = let l' : n < 10 = l in rw (lt-ltb n 10 l')
places zero (suc k) n h l m = absurd (omega arith)
places (suc f) (suc k) n h l m =
    let m' : 10 ^ suc k ≤ n = m (omega arith) in
    let big : 10 ≤ n = omega (arith, one-le-pow k 10 (omega arith)) in
    rw (le-ltb n 10 big) (ap suc (places f k (n / 10) (omega arith) (omega arith) (λ _. omega arith)))

-- a u64 has at most 20
few : (n k : ℕ) → n < 2 ^ 64 → (1 < suc k → 10 ^ k ≤ n) → k ≤ 19
few n k h f =
    elim (dec_le k 19) [
      | yes l ↦ l
      | no l ↦ absurd (omega (arith, f (omega arith), pow-le-pow_right {n = 10} (omega arith) {i = 20} {j = k} (omega arith)))
    ]

pub decimal_is : (n k : ℕ) → n < 2 ^ 64 → IsDigitCount 10 1 n k → last_digits 10 k n ≡ decimal_text n
decimal_is n zero h f = absurd (omega (arith, f.0))
decimal_is n (suc k) h f =
    let e : suc k - 1 ≡ k = omega arith in
    let m : 1 < suc k → 10 ^ k ≤ n = λ l. rw e at (f.2 l) in
    ap (λ (i : ℕ). last_digits 10 i n) (sym (places 19 k n (few n k h m) f.1 m))

-- ---- bytes

pub hex_append : (a b : List ℕ) → hex_text (a ++ b) ≡ hex_text a ++ hex_text b
unfolding hex_text
hex_append [] b = refl
hex_append (c ∷ a) b = rw (hex_append a b)

-- one byte more, its digits one behind the other and both at once
pub hex_next : (t : Output) (s : List ℕ) (i : ℕ) → i < length s
    → typed t (hex_text (take (i + 1) s)) ≡ typed (typed (typed t (hex_text (take i s))) (hex_digit (get_or s i 0 / 16) ∷ [])) (hex_digit (get_or s i 0 % 16) ∷ [])
unfolding typed hex_text
hex_next t s i h = rw (take_more s i 0 h, hex_append (take i s) (get_or s i 0 ∷ [])) (sym (typed_more t (hex_text (take i s)) (hex_digit (get_or s i 0 / 16) ∷ hex_digit (get_or s i 0 % 16) ∷ [])))

pub hex_pair : (t : Output) (s : List ℕ) (i : ℕ) → i < length s
    → typed t (hex_text (take (i + 1) s)) ≡ typed (typed t (hex_text (take i s))) (hex_digit (get_or s i 0 / 16) ∷ hex_digit (get_or s i 0 % 16) ∷ [])
hex_pair t s i h =
    hex_next t s i h ∙ typed_more (typed t (hex_text (take i s))) (hex_digit (get_or s i 0 / 16) ∷ []) (hex_digit (get_or s i 0 % 16) ∷ [])

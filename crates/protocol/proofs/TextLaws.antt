-- Laws of the text of the line protocol.
use Rattle.std.proofs.Common.{◌≡◌, refl, sym, ◌∙◌, List, [], ◌∷◌, ◌++◌, Bool, not, unwrap_or, ℕ, zero, suc, ◌+◌, ◌*◌, ◌/◌, ◌<◌, length, get_or, take, arith}
use Rattle.std.specs.List.{position, position_or_len, before_first}
use Rattle.std.proofs.Math.Seq.{take-length}
use Rattle.std.proofs.lemmas.List.{take_more}
use Rattle.std.proofs.lemmas.List.Sums.{prefix_len-le-length}
use native.Mathlib.Decide.{dec_lt}
use borrow.Author.Tests.{lt-ltb, le-ltb}
use Rattle.protocol.specs.Text.{byte_of, hex_bytes}

-- ---- byte strings

pub bytes_length : (s : List ℕ) → length (hex_bytes s) ≡ length s / 2
unfolding hex_bytes
bytes_length [] = refl
bytes_length (a ∷ []) = refl
bytes_length (a ∷ b ∷ s) = omega (arith, bytes_length s)

pub byte_at : (s : List ℕ) (i : ℕ) → 2 * i + 1 < length s → get_or (hex_bytes s) i 0 ≡ byte_of (get_or s (2 * i) 0) (get_or s (2 * i + 1) 0)
unfolding hex_bytes
byte_at [] i h = absurd (omega arith)
byte_at (a ∷ []) i h = absurd (omega arith)
byte_at (a ∷ b ∷ s) zero h = refl
byte_at (a ∷ b ∷ s) (suc i) h =
    let e : 2 * suc i ≡ suc (suc (2 * i)) = omega arith in
    let f : 2 * suc i + 1 ≡ suc (suc (2 * i + 1)) = omega arith in
    rw (f, e) (byte_at s i (omega arith))

-- one byte more
pub byte_more : (s : List ℕ) (i : ℕ) → 2 * i + 1 < length s
    → take (i + 1) (hex_bytes s) ≡ take i (hex_bytes s) ++ byte_of (get_or s (2 * i) 0) (get_or s (2 * i + 1) 0) ∷ []
byte_more s i h = rw (← byte_at s i h) (take_more (hex_bytes s) i 0 (omega (arith, bytes_length s)))

-- all of them are there
pub bytes_all : (s out : List ℕ) (n : ℕ) → n ≡ length out → length s / 2 ≡ length out → take n out ≡ take n (hex_bytes s) → out ≡ hex_bytes s
bytes_all s out n h k e =
    let m : length out ≡ length (hex_bytes s) = omega (arith, bytes_length s) in
    let f : take (length out) out ≡ take (length (hex_bytes s)) (hex_bytes s) = cc in
    sym (take-length out) ∙ f ∙ take-length (hex_bytes s)

-- ---- words

pub word_is : (p : ℕ → Bool) (s : List ℕ) → take (unwrap_or (position p s) (length s)) s ≡ before_first p s
word_is p s =
    elim (dec_lt (position_or_len p s) (length s)) [
      | yes h ↦ rw (lt-ltb (position_or_len p s) (length s) h) refl
      | no h ↦ let e : position_or_len p s ≡ length s = omega (arith, prefix_len-le-length (λ c. not (p c)) s) in rw (e, le-ltb (length s) (length s) (omega arith)) refl
    ]

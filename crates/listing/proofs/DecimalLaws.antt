-- Laws of decimal digits: one more digit, and how many there are.
use Prim.Native.Nat.{ℕ, zero, suc, ◌+◌, ◌-◌, ◌*◌, ◌/◌, ◌%◌, ◌^◌, ◌≤◌, ◌<◌, max}
use native.Mathlib.Omega.{arith}
use native.Mathlib.Nat.{pow-suc}
use mathlib.Core.Path.{◌≡◌, refl, sym, ap, ◌∙◌}
use mathlib.Core.List.{List, [], ◌∷◌, ◌++◌}
use mathlib.Core.Bool.{Bool, true, false, cond as pick}
use lib.ListN.{length, set, length-append, length-set}
use lib.Dec.{ltb}
use borrow.Author.Tests.{lt-ltb, le-ltb, ltb-true, ltb-false}
use Rattle.bitio.specs.Lent.{pasted}
use Rattle.bitio.proofs.ParseLaws.{pick-both}
use Rattle.bitio.proofs.LentLaws.{pasted-nil}
use Rattle.listing.proofs.WroteLaws.{pasted_behind}
use Rattle.listing.specs.Decimal.{digits_in, decimal}

-- ---- one more digit

enough : (k m n : ℕ) → n ≤ k → n ≤ m → digits_in k n ≡ digits_in m n
unfolding digits_in
enough zero zero n h g = refl
enough zero (suc m) n h g = rw (lt-ltb n 10 (omega arith))
enough (suc k) zero n h g = rw (lt-ltb n 10 (omega arith))
enough (suc k) (suc m) n h g =
    ap (λ (l : List ℕ). pick (ltb n 10) ((48 + n) ∷ []) (l ++ ((48 + n % 10) ∷ []))) (enough k m (n / 10) (omega arith) (omega arith))

-- a number below 10 is one digit
pub decimal_last : (n : ℕ) → n < 10 → decimal n ≡ (48 + n) ∷ []
unfolding decimal digits_in
decimal_last zero h = refl
decimal_last (suc n) h = rw (lt-ltb (suc n) 10 h)

-- a larger one: the digits of its tenth, then its last digit
pub decimal_more : (n : ℕ) → 10 ≤ n → decimal n ≡ decimal (n / 10) ++ ((48 + n % 10) ∷ [])
unfolding decimal digits_in
decimal_more zero h = absurd (omega arith)
decimal_more (suc n) h =
    rw (le-ltb (suc n) 10 h) (ap (λ (l : List ℕ). l ++ ((48 + suc n % 10) ∷ [])) (enough n (suc n / 10) (suc n / 10) (omega arith) (omega arith)))

-- ---- how many

pub decimal_one : (n : ℕ) → n < 10 → length (decimal n) ≡ 1
decimal_one n h = ap length (decimal_last n h)

pub decimal_length : (n : ℕ) → 10 ≤ n → length (decimal n) ≡ length (decimal (n / 10)) + 1
decimal_length n h = ap length (decimal_more n h) ∙ length-append (decimal (n / 10)) ((48 + n % 10) ∷ [])

in_most : (j k n : ℕ) → n < 10 ^ suc k → length (digits_in j n) ≤ suc k
unfolding digits_in
in_most zero k n h = omega arith
in_most (suc j) zero n h = rw (lt-ltb n 10 (omega arith)) (omega arith)
in_most (suc j) (suc k) n h =
    let i = in_most j k (n / 10) (omega (arith, pow-suc 10 (suc k))) in
    let e = length-append (digits_in j (n / 10)) ((48 + n % 10) ∷ []) in
    pick-both (λ (l : List ℕ). length l ≤ suc (suc k)) (ltb n 10) (omega arith) (omega arith)

-- a u64 has at most 20 digits
pub decimal_most : (n : ℕ) → n < 2 ^ 64 → length (decimal n) ≤ 20
unfolding decimal
decimal_most n h = in_most n 19 n (omega arith)

-- by the logarithm
pub decimal_log : (k n : ℕ) → 10 ^ k ≤ max n 1 → max n 1 < 10 * 10 ^ k → length (decimal n) ≡ k + 1
decimal_log zero n h g = decimal_one n (omega arith)
decimal_log (suc k) n h g =
    let e = pow-suc 10 k in
    let t = decimal_log k (n / 10) (omega arith) (omega arith) in
    omega (arith, decimal_length n (omega arith), t)

-- and of a number that has more than one digit
pub decimal_large : (k n : ℕ) → 10 ≤ n → 10 ^ k ≤ n → n < 10 * 10 ^ k → length (decimal n) ≡ k + 1
decimal_large k n s h g = decimal_log k n (omega arith) (omega arith)

-- ---- written from the last digit

-- the low k digits of n
unfoldable pub low_digits : ℕ → ℕ → List ℕ
low_digits zero n = []
low_digits (suc k) n = low_digits k (n / 10) ++ ((48 + n % 10) ∷ [])

low_in : (k n : ℕ) → n ≤ k → low_digits (length (digits_in k n)) n ≡ digits_in k n
unfolding low_digits digits_in
low_in zero zero h = refl
low_in zero (suc n) h = absurd (omega arith)
low_in (suc k) n h = go (ltb n 10) refl (λ g. low_in k (n / 10) (omega arith))
  where
    go : (b : Bool) → ltb n 10 ≡ b → (1 ≤ n → low_digits (length (digits_in k (n / 10))) (n / 10) ≡ digits_in k (n / 10))
        → low_digits (length (pick b ((48 + n) ∷ []) (digits_in k (n / 10) ++ ((48 + n % 10) ∷ [])))) n ≡ pick b ((48 + n) ∷ []) (digits_in k (n / 10) ++ ((48 + n % 10) ∷ []))
    go true e f = let h = ltb-true n 10 e in ap (λ (m : ℕ). (48 + m) ∷ []) (omega arith)
    go false e f =
        let l = digits_in k (n / 10) in
        let g = ltb-false n 10 e in
        let w : length (l ++ ((48 + n % 10) ∷ [])) ≡ suc (length l) = omega (arith, length-append l ((48 + n % 10) ∷ [])) in
        rw w (ap (λ (m : List ℕ). m ++ ((48 + n % 10) ∷ [])) (f (omega arith)))

low_length : (k n : ℕ) → length (low_digits k n) ≡ k
unfolding low_digits
low_length zero n = refl
low_length (suc k) n = omega (arith, length-append (low_digits k (n / 10)) ((48 + n % 10) ∷ []), low_length k (n / 10))

-- what stands from i on, with the digits of x before it, is the whole
pub record Digits (d₀ : List ℕ) (at v : ℕ) (d : List ℕ) (i x : ℕ) : Type 0 where
  pub small : x < 2 ^ 64
  pub behind : at ≤ i
  pub kept : length d ≡ length d₀
  pub same : pasted d at (low_digits (i - at) x) ≡ pasted d₀ at (decimal v)

pub digits_start : (d : List ℕ) (at v i : ℕ) → v < 2 ^ 64 → i ≡ at + length (decimal v) → Digits d at v d i v
unfolding decimal
digits_start d at v i h e =
    let k : i - at ≡ length (digits_in v v) = omega arith in
    record { small = h; behind = omega arith; kept = refl; same = rw k (ap (pasted d at) (low_in v v (omega arith))) }

module _ {d₀ : List ℕ} {at v : ℕ} {d : List ℕ} {i x : ℕ} (r : Digits d₀ at v d i x) where
  pub digits_turn : at < i → i ≤ length d₀ → Digits d₀ at v (set d (i - 1) (48 + x % 10)) (i - 1) (x / 10)
  unfolding low_digits
  digits_turn h k =
      let l = low_digits (i - 1 - at) (x / 10) in
      let n : length l ≡ i - 1 - at = low_length (i - 1 - at) (x / 10) in
      let m : suc (i - 1 - at) ≡ i - at = omega arith in
      record {
        small = omega (arith, r.small);
        behind = omega arith;
        kept = simp length-set r.kept;
        same = pasted_behind d at l (i - 1) (48 + x % 10) (omega arith) (omega (arith, r.kept)) ∙ ap (λ (n : ℕ). pasted d at (low_digits n x)) m ∙ r.same;
      }

  pub digits_end : i ≤ at → d ≡ pasted d₀ at (decimal v)
  unfolding low_digits
  digits_end h =
      let k : i - at ≡ 0 = omega arith in
      sym (pasted-nil d at) ∙ ap (λ (n : ℕ). pasted d at (low_digits n x)) (sym k) ∙ r.same

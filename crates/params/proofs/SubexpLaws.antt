-- decode_subexp, turn by turn.
use Prim.Native.Nat.{ℕ, zero, suc, ◌+◌, ◌-◌, ◌*◌, ◌^◌, ◌<◌, ◌≤◌}
use native.Mathlib.Omega.{arith}
use native.Mathlib.Decide.{dec_lt}
use mathlib.Core.Path.{◌≡◌, refl, sym, ap, ◌∙◌}
use mathlib.Core.List.{List}
use mathlib.Core.Bool.{Bool, true, false, cond as pick}
use lib.Dec.{eqb}
use lib.Pow.{pow_mono}
use borrow.Author.Tests.{eqb-true, le-leb, lt-leb}
use Rattle.bitio.specs.Bits.{Reading, fails, reads, and_then, read_bits}
use Rattle.bitio.specs.Fields.{read_flag}
use Rattle.syntax.specs.Syntax.{run}
use Rattle.syntax.specs.Near.{ns}
use Rattle.syntax.proofs.FlagLaws.{flag_then}
use Rattle.params.specs.Motion.{subexp_bits, decode_subexp}

-- the number behind a width of bits
abbrev plus : ℕ → Reading ℕ → Reading ℕ
plus mk x = and_then x (λ v q. reads (v + mk) q)

-- a turn that is not the last: one more, or the rest of so many bits
abbrev pub turned : List ℕ → ℕ → ℕ → (ℕ → Reading ℕ) → ℕ → Reading ℕ
turned s b mk more p = and_then (read_flag s p) (λ goes_on q. pick goes_on (more q) (plus mk (read_bits s q b)))

as_is : (x : Reading ℕ) → and_then x (λ v q. reads v q) ≡ x
as_is (fails k) = refl
as_is (reads v q) = refl

-- readings within readings that end as they are
flat : (f : ℕ → ℕ → Reading ℕ) (x : Reading ℕ) → and_then (and_then x (λ v q. and_then (f v q) (λ w r. reads w r))) (λ w r. reads w r) ≡ and_then x f
flat f (fails k) = refl
flat f (reads v q) = as_is (and_then (f v q) (λ w r. reads w r)) ∙ as_is (f v q)

module _ (s : List ℕ) (n i mk p k : ℕ) where
  -- all that is left in one number
  last_turn : n ≤ mk + 3 * 2 ^ subexp_bits i → plus mk (run (ns (n - mk)) s p) ≡ run (decode_subexp (suc k) n i mk) s p
  unfolding run decode_subexp
  last_turn h = rw (le-leb _ _ h) (sym (as_is (plus mk (run (ns (n - mk)) s p))))

  one_turn : mk + 3 * 2 ^ subexp_bits i < n
      → turned s (subexp_bits i) mk (λ q. run (decode_subexp k n (i + 1) (mk + 2 ^ subexp_bits i)) s q) p ≡ run (decode_subexp (suc k) n i mk) s p
  unfolding run decode_subexp
  one_turn h =
      let then : Bool → ℕ → Reading ℕ =
      λ more q. pick more (run (decode_subexp k n (i + 1) (mk + 2 ^ subexp_bits i)) s q) (plus mk (read_bits s q (subexp_bits i))) in
      flag_then s p then ∙ rw (lt-leb _ _ h) (sym (flat (λ v q. then (eqb v 1) q) (read_bits s p 1)))

bits_up : (i : ℕ) → i + 2 ≤ subexp_bits i
bits_up i = by-test (eqb i 0) refl
  where
    by-test : (t : Bool) → eqb i 0 ≡ t → i + 2 ≤ subexp_bits i
    by-test true e = rw e (omega (arith, eqb-true i 0 e))
    by-test false e = rw e (omega arith)

-- ---- the code's loop

-- of the turns from p₀ on, those from i on are left, from p on
pub record Turn (s : List ℕ) (n p₀ i mk p : ℕ) : Type 0 where
  pub few : i ≤ 11
  pub less : mk < n
  pub same : run (decode_subexp (16 - i) n i mk) s p ≡ run (decode_subexp 16 n 0 0) s p₀

module _ {s : List ℕ} {n p₀ i mk p : ℕ} (t : Turn s n p₀ i mk p) {b : ℕ} (e : b ≡ subexp_bits i) where
  -- the turn itself, and those that are left behind it
  this : run (decode_subexp (suc (16 - (i + 1))) n i mk) s p ≡ run (decode_subexp 16 n 0 0) s p₀
  this =
      let m : suc (16 - (i + 1)) ≡ 16 - i = omega (arith, t.few) in
      ap (λ (k : ℕ). run (decode_subexp k n i mk) s p) m ∙ t.same

  pub final : n ≤ mk + 3 * 2 ^ b → plus mk (run (ns (n - mk)) s p) ≡ run (decode_subexp 16 n 0 0) s p₀
  final h = last_turn s n i mk p (16 - (i + 1)) (rw e at h) ∙ this

  pub another : mk + 3 * 2 ^ b < n → turned s b mk (λ q. run (decode_subexp (16 - (i + 1)) n (i + 1) (mk + 2 ^ b)) s q) p ≡ run (decode_subexp 16 n 0 0) s p₀
  another h = rw e (one_turn s n i mk p (16 - (i + 1)) (rw e at h) ∙ this)

  -- there are few: 3 * 2 ^ 13 is beyond n
  pub fewer : n ≤ 16384 → mk + 3 * 2 ^ b < n → i + 1 ≤ 11
  fewer most h =
      elim (dec_lt b 13) [
        | yes w ↦ omega (arith, bits_up i)
        | no w ↦ absurd (omega (arith, pow_mono {i = 13} {j = b} (omega arith)))
      ]

-- ---- sixteen turns are enough: more change nothing

module _ {n : ℕ} (most : n ≤ 16384) (s : List ℕ) where
  -- a turn, if those behind it come to the same
  same_turn : (b mk p : ℕ) {f g : ℕ → Reading ℕ} → ((q : ℕ) → f q ≡ g q) → turned s b mk f p ≡ turned s b mk g p
  same_turn b mk p {f} {g} e = by-reading (read_flag s p)
    where
      by-reading : (x : Reading Bool) → and_then x (λ more q. pick more (f q) (plus mk (read_bits s q b))) ≡ and_then x (λ more q. pick more (g q) (plus mk (read_bits s q b)))
      by-reading (fails j) = refl
      by-reading (reads more q) = ap (λ (w : Reading ℕ). pick more w (plus mk (read_bits s q b))) (e q)

  -- one more turn, where it changes nothing behind this one
  more_behind : (k i mk p : ℕ)
      → (mk + 3 * 2 ^ subexp_bits i < n → (q : ℕ) → run (decode_subexp k n (i + 1) (mk + 2 ^ subexp_bits i)) s q ≡ run (decode_subexp (suc k) n (i + 1) (mk + 2 ^ subexp_bits i)) s q)
      → run (decode_subexp (suc k) n i mk) s p ≡ run (decode_subexp (suc (suc k)) n i mk) s p
  more_behind k i mk p f =
      elim (dec_lt (mk + 3 * 2 ^ subexp_bits i) n) [
        | no l ↦ sym (last_turn s n i mk p k (omega arith)) ∙ last_turn s n i mk p (suc k) (omega arith)
        | yes l ↦ sym (one_turn s n i mk p k l) ∙ same_turn (subexp_bits i) mk p (f l) ∙ one_turn s n i mk p (suc k) l
      ]

  one_more : (k i mk p : ℕ) → 11 ≤ i + k → run (decode_subexp (suc k) n i mk) s p ≡ run (decode_subexp (suc (suc k)) n i mk) s p
  one_more zero i mk p h =
      more_behind zero i mk p (λ l q. absurd (omega (arith, bits_up i, pow_mono {i = 13} {j = subexp_bits i} (omega (arith, bits_up i)))))
  one_more (suc k) i mk p h =
      more_behind (suc k) i mk p (λ l q. one_more k (i + 1) (mk + 2 ^ subexp_bits i) q (omega arith))

  pub enough : (m p : ℕ) → run (decode_subexp (16 + m) n 0 0) s p ≡ run (decode_subexp 16 n 0 0) s p
  enough zero p = refl
  enough (suc m) p =
      let two : 16 + suc m ≡ suc (suc (15 + m)) = omega arith in
      let one : suc (15 + m) ≡ 16 + m = omega arith in
      ap (λ (k : ℕ). run (decode_subexp k n 0 0) s p) two
      ∙ sym (one_more (15 + m) 0 0 p (omega arith))
      ∙ ap (λ (k : ℕ). run (decode_subexp k n 0 0) s p) one
      ∙ enough m p

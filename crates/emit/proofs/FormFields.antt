-- A field that is read has a value that some bits read as, and its bits are those that are put for it.
use mathlib.Core.Path.{◌≡◌, refl, sym, ap, subst, ◌∙◌}
use Prim.Native.Nat.{ℕ, zero, suc, ◌+◌, ◌-◌, ◌*◌, ◌/◌, ◌%◌, ◌^◌, ◌<◌, ◌≤◌}
use native.Mathlib.Omega.{arith}
use native.Mathlib.Numerals.{add-one}
use native.Mathlib.Decide.{dec_lt}
use mathlib.Core.List.{List, [], ◌∷◌, ◌++◌, append_assoc}
use mathlib.Core.Bool.{Bool, true, false, ◌&&◌, cond as pick}
use mir.Val.{bool_byte}
use lib.Dec.{eqb}
use lib.Pow.{pow-add, pow_mono, pow_pos}
use lib.ListN.{length, drop, replicate}
use lib.Seq.{drop-cons}
use borrow.Author.Tests.{ltb-true, lt-ltb, lt-leb, eq-eqb, eqb-true, eqb-false}
use Rattle.bitio.specs.Bits.{Reading, fails, reads, and_then, bit_at, bits_at, bits_in, read_bits}
use Rattle.bitio.specs.Uvlc.{leading_zeros, uvlc_suffix, uvlc}
use Rattle.bitio.specs.Write.{bits_of, unpack, uvlc_zeros, uvlc_width}
use Rattle.bitio.proofs.BitLaws.{bit-lt, bits-lt, read-there, read_past, read_wide}
use Rattle.bitio.proofs.UnpackLaws.{length-unpack, unpack-at}
use Rattle.bitio.proofs.UvlcFormLaws.{HighestBit, uvlc-place, uvlc-bits}
use Rattle.bitio.specs.Fields.{read_flag, read_or, flag_or, uvlc_or}
use Rattle.emittable.specs.PutFields.{put, put_or, put_flag, put_flag_or, put_uvlc_or, fits, fits_or, flag_fits_or, uvlc_fits_or}
use Rattle.emit.proofs.PackLaws.{one_bit}

-- ---- what is read, if anything is

abbrev All : {A : Type 0} → (A → ℕ → Type 0) → Reading A → Type 0
All P (fails k) = Unit {0}
All P (reads a q) = P a q

-- what x reads as, if anything, is as P says
pub record Holds {A : Type 0} (P : A → ℕ → Type 0) (x : Reading A) : Type 0 where
  pub all : All P x

pub holds-reads : {A : Type 0} {P : A → ℕ → Type 0} {a : A} {q : ℕ} → P a q → Holds P (reads a q)
holds-reads h = record { all = h }

pub holds-fails : {A : Type 0} {P : A → ℕ → Type 0} {k : ℕ} → Holds P (fails k)
holds-fails = record { all = tt }

pub holds : {A : Type 0} {P : A → ℕ → Type 0} {x : Reading A} → Holds P x → (a : A) (q : ℕ) → x ≡ reads a q → P a q
holds {A} {P} h a q e = subst (All P) e h.all

-- this, then that
pub holds_then : {A B : Type 0} {P : A → ℕ → Type 0} {Q : B → ℕ → Type 0} {x : Reading A} (k : A → ℕ → Reading B) → Holds P x
    → ((a : A) (q : ℕ) → P a q → Holds Q (k a q)) → Holds Q (and_then x k)
holds_then {A} {B} {P} {Q} {x} k h f = go x h.all
  where
    go : (y : Reading A) → All P y → Holds Q (and_then y k)
    go (fails j) a = record { all = tt }
    go (reads a q) b = f a q b

-- ---- what the bits of a field are

-- the bits of s from p on are f's and then those from q on; and t
pub record Formed (s : List ℕ) (p : ℕ) (t : Bool) (f : List ℕ → List ℕ) (q : ℕ) : Type 0 where
  pub good : t ≡ true
  pub bits : drop p (unpack s) ≡ f (drop q (unpack s))

-- one after the other
pub formed-then : {s : List ℕ} {p q r : ℕ} {a b : Bool} {f g : List ℕ → List ℕ} → Formed s p a f q → Formed s q b g r → Formed s p (a && b) (λ l. f (g l)) r
formed-then {f = f} x y = record { good = rw x.good y.good; bits = x.bits ∙ ap f y.bits }

-- one after the other, where the second is good in any case
pub formed-also : {s : List ℕ} {p q r : ℕ} {a : Bool} {f g : List ℕ → List ℕ} → Formed s p a f q → Formed s q true g r → Formed s p a (λ l. f (g l)) r
formed-also {f = f} x y = record { good = x.good; bits = x.bits ∙ ap f y.bits }

-- a bit
bit-seen : (s : List ℕ) (p : ℕ) → p < 8 * length s → drop p (unpack s) ≡ bit_at s p ∷ drop (p + 1) (unpack s)
bit-seen s p h =
    let n = length-unpack s in
    drop-cons (unpack s) p 0 (omega arith) ∙ ap (λ b. b ∷ drop (suc p) (unpack s)) (unpack-at s p h) ∙ rw add-one

-- n bits are those of the number that they come to
bits-seen : (s : List ℕ) (p n : ℕ) → p + n ≤ 8 * length s → drop p (unpack s) ≡ bits_of n (bits_at s p n) ++ drop (p + n) (unpack s)
unfolding bits_at bits_of
bits-seen s p zero h = let e : p + 0 ≡ p = omega arith in rw e
bits-seen s p (suc n) h =
    let x = bits_at s p n in
    let b = bit_at s (p + n) in
    let l = bit-lt s (p + n) in
    let d : (2 * x + b) / 2 ≡ x = omega arith in
    let m : (2 * x + b) % 2 ≡ b = omega arith in
    let e : p + n + 1 ≡ p + suc n = omega arith in
    rw (d, m)
    (bits-seen s p n (omega arith) ∙ ap (λ l. bits_of n x ++ l) (bit-seen s (p + n) (omega arith) ∙ ap (λ j. b ∷ drop j (unpack s)) e)
    ∙ sym (append_assoc (bits_of n x) (b ∷ []) (drop (p + suc n) (unpack s))))

-- f(n)
pub bits-form : (s : List ℕ) (p n : ℕ) → Holds (λ v q. Formed s p (fits n v) (put n v) q) (read_bits s p n)
unfolding fits put
bits-form s p n =
    elim (dec_lt 64 n) [
      | yes w ↦ rw (read_wide s p n w) holds-fails
      | no w ↦
          elim (dec_lt (bits_in (length s)) (p + n)) [
            | yes l ↦ rw (read_past s p n l) holds-fails
            | no l ↦
                rw (read-there s p n (omega arith) (omega arith))
                (holds-reads (record { good = lt-ltb (bits_at s p n) (2 ^ n) (bits-lt s p n); bits = bits-seen s p n (omega arith) }))
          ]
    ]

-- a flag
pub flag-form : (s : List ℕ) (p : ℕ) → Holds (λ v q. Formed s p true (put_flag v) q) (read_flag s p)
unfolding read_flag put_flag fits put
flag-form s p =
    holds_then _ (bits-form s p 1) (λ v q h.
    holds-reads (record { good = refl; bits = h.bits ∙ ap (λ b. bits_of 1 b ++ drop q (unpack s)) (byte v (ltb-true v 2 h.good)) }))
  where
    byte : (v : ℕ) → v < 2 → v ≡ bool_byte (eqb v 1)
    byte zero k = refl
    byte (suc zero) k = refl
    byte (suc (suc v)) k = absurd (omega arith)

-- f(n) where on
pub or-form : (s : List ℕ) (p : ℕ) (on : Bool) (n other : ℕ) → Holds (λ v q. Formed s p (fits_or on n other v) (put_or on n v) q) (read_or s p on n other)
unfolding fits_or put_or read_or
or-form s p true n other = bits-form s p n
or-form s p false n other = holds-reads (record { good = eq-eqb other other refl; bits = refl })

-- a flag where on
pub flag-or-form : (s : List ℕ) (p : ℕ) (on other : Bool) → Holds (λ v q. Formed s p (flag_fits_or on other v) (put_flag_or on v) q) (flag_or s p on other)
unfolding flag_fits_or put_flag_or flag_or
flag-or-form s p true other = flag-form s p
flag-or-form s p false true = holds-reads (record { good = refl; bits = refl })
flag-or-form s p false false = holds-reads (record { good = refl; bits = refl })

-- a flag that is always there
pub flag-always-form : (s : List ℕ) (p : ℕ) → Holds (λ v q. Formed s p true (put_flag v) q) (flag_or s p true false)
unfolding flag_or
flag-always-form s p = flag-form s p

-- ---- uvlc

-- so many zeros, and the one behind them
abbrev Zeros : List ℕ → ℕ → ℕ → ℕ → ℕ → Type 0
Zeros s p limit z q = (z < limit) × (drop p (unpack s) ≡ replicate z 0 ++ (1 ∷ drop q (unpack s)))

zeros-form : (limit : ℕ) (s : List ℕ) (p : ℕ) → Holds (λ z q. Zeros s p limit z q) (leading_zeros limit s p)
unfolding leading_zeros fits put
zeros-form zero s p = holds-fails
zeros-form (suc limit) s p =
    holds_then _ (bits-form s p 1) (λ b q h.
    bit (eqb b 1) b q refl h.bits (ltb-true b 2 h.good) (zeros-form limit s q))
  where
    bit : (t : Bool) (b q : ℕ) → eqb b 1 ≡ t → drop p (unpack s) ≡ bits_of 1 b ++ drop q (unpack s) → b < 2 → Holds (λ z r. Zeros s q limit z r) (leading_zeros limit s q)
        → Holds (λ z r. Zeros s p (suc limit) z r) (pick t (reads 0 q) (and_then (leading_zeros limit s q) (λ z r. reads (suc z) r)))
    bit true b q e h l more = holds-reads (omega arith, h ∙ ap (λ x. x ++ drop q (unpack s)) (one_bit b l ∙ ap (λ x. x ∷ []) (eqb-true b 1 e)))
    bit false b q e h l more =
        let n = eqb-false b 1 e in
        let o : b ≡ 0 = omega arith in
        holds_then _ more (λ z r k.
        holds-reads (omega arith, h ∙ ap (λ x. x ++ drop q (unpack s)) (one_bit b l ∙ ap (λ x. x ∷ []) o) ∙ ap (λ x. 0 ∷ x) k.1))

-- the highest bit has one place
same_place : (x y z : ℕ) → HighestBit x y → HighestBit x z → y ≡ z
same_place x y z a b =
    elim (dec_lt y z) [
      | yes l ↦ absurd (omega (arith, pow_mono {i = y + 1} {j = z} (omega arith), a.below, b.above))
      | no l ↦
          elim (dec_lt z y) [
            | yes m ↦ absurd (omega (arith, pow_mono {i = z + 1} {j = y} (omega arith), a.above, b.below))
            | no m ↦ omega arith
          ]
    ]

-- the bits of v, of which v + 1 is x behind its highest bit at z
uvlc-formed : (v z x : ℕ) → v + 1 ≡ x + 2 ^ z → x < 2 ^ z → z < 32 → bits_of (uvlc_width v) (v + 1) ≡ replicate z 0 ++ (1 ∷ bits_of z x)
uvlc-formed v z x n l h =
    let w : v + 1 < 2 ^ (z + 1) = omega (arith, pow-add 2 z 1) in
    let u = pow_mono {i = z + 1} {j = 32} (omega arith) in
    let c : v + 1 < 2 ^ 33 = omega arith in
    let e : uvlc_zeros v ≡ z = same_place (v + 1) (uvlc_zeros v) z (uvlc-place v c) (record { above = omega arith; below = w }) in
    let m : v + 1 - 2 ^ z ≡ x = omega arith in
    let at : ℕ → ℕ → List ℕ = λ j y. replicate j 0 ++ (1 ∷ bits_of j y) in
    uvlc-bits v c ∙ ap (λ j. at j (v + 1 - 2 ^ j)) e ∙ ap (at z) m

-- z zeros, a one, and z bits of x
suffix-bits : (v z x : ℕ) (t : List ℕ) {d r : List ℕ} → bits_of (uvlc_width v) (v + 1) ≡ replicate z 0 ++ (1 ∷ bits_of z x) → d ≡ replicate z 0 ++ (1 ∷ r) → r ≡ bits_of z x ++ t → d ≡ bits_of (uvlc_width v) (v + 1) ++ t
suffix-bits v z x t f a b =
    a ∙ ap (λ y. replicate z 0 ++ (1 ∷ y)) b ∙ sym (append_assoc (replicate z 0) (1 ∷ bits_of z x) t) ∙ ap (λ y. y ++ t) (sym f)

suffix-form : (s : List ℕ) (p z r x q : ℕ) → Zeros s p 32 z r → Formed s r (fits z x) (put z x) q
    → Formed s p (uvlc_fits_or true (x + (2 ^ z - 1))) (put_uvlc_or true (x + (2 ^ z - 1))) q
unfolding fits put uvlc_fits_or put_uvlc_or
suffix-form s p z r x q a b =
    let v = x + (2 ^ z - 1) in
    let l = ltb-true x (2 ^ z) b.good in
    let o = pow_pos z in
    let n : v + 1 ≡ x + 2 ^ z = omega arith in
    let u = pow_mono {i = z + 1} {j = 32} (omega arith) in
    record {
      good = lt-ltb v (2 ^ 32 - 1) (omega (arith, pow-add 2 z 1));
      bits = suffix-bits v z x (drop q (unpack s)) (uvlc-formed v z x n l a.0) a.1 b.bits;
    }

-- no uvlc
uvlc-off-form : (s : List ℕ) (p : ℕ) → Formed s p (uvlc_fits_or false 0) (put_uvlc_or false 0) p
unfolding uvlc_fits_or put_uvlc_or
uvlc-off-form s p = record { good = refl; bits = refl }

-- uvlc where on
pub uvlc-or-form : (s : List ℕ) (p : ℕ) (on : Bool) → Holds (λ v q. Formed s p (uvlc_fits_or on v) (put_uvlc_or on v) q) (uvlc_or 32 s p on)
unfolding uvlc_or uvlc uvlc_suffix
uvlc-or-form s p true =
    holds_then _ (zeros-form 32 s p) (λ z r a.
    rw (lt-leb 32 z a.0)
    (holds_then _ (bits-form s r z) (λ x q b.
    holds-reads (suffix-form s p z r x q a b))))
uvlc-or-form s p false = holds-reads (uvlc-off-form s p)

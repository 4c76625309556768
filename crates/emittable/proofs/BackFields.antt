-- Fields that were put are read back, and then what stands behind them is seen.
use mathlib.Core.Path.{◌≡◌, refl, sym, ap, ◌∙◌}
use Prim.Native.Nat.{ℕ, ◌+◌, ◌-◌, ◌^◌, ◌≤◌}
use native.Mathlib.Omega.{arith}
use mathlib.Core.List.{List}
use mathlib.Core.Bool.{Bool, true, false, not, cond as pick}
use borrow.Author.Tests.{ltb-true, eqb-true}
use Rattle.bitio.specs.Bits.{Reading, reads, and_then, read_bits}
use Rattle.bitio.specs.Write.{uvlc_width}
use Rattle.bitio.proofs.SeesLaws.{Sees, sees-bits}
use Rattle.bitio.proofs.UvlcBackLaws.{sees-uvlc}
use Rattle.bitio.specs.Fields.{read_flag, read_or, flag_or, uvlc_or}
use Rattle.emittable.specs.PutFields.{put, put_or, put_flag, put_flag_or, put_uvlc_or, fits, fits_or, flag_fits_or, uvlc_fits_or}

-- x reads as v, and then l is seen
pub record Back {A : Type 0} (s : List ℕ) (x : Reading A) (v : A) (l : List ℕ) : Type 0 where
  pub to : ℕ
  pub eq : x ≡ reads v to
  pub sees : Sees s to l

-- nothing is left to read
pub done : {A : Type 0} (v : A) {s : List ℕ} {p : ℕ} {l : List ℕ} → Sees s p l → Back s (reads v p) v l
done v {s} {p} k = record { to = p; eq = refl; sees = k }

-- this is read back, then that
pub next : {A B : Type 0} {s : List ℕ} {x : Reading A} (k : A → ℕ → Reading B) (v : A) {w : B} {l r : List ℕ}
    → Back s x v l → ((p : ℕ) → Sees s p l → Back s (k v p) w r) → Back s (and_then x k) w r
next k v b f =
    let r = f b.to b.sees in
    record { to = r.to; eq = ap (λ x. and_then x k) b.eq ∙ r.eq; sees = r.sees }

-- f(n)
pub bits_back : (n v : ℕ) (l : List ℕ) {s : List ℕ} {p : ℕ} → fits n v ≡ true → n ≤ 64 → Sees s p (put n v l) → Back s (read_bits s p n) v l
unfolding put fits
bits_back n v l {s} {p} g w k =
    let (e, r) = sees-bits n v l (ltb-true v (2 ^ n) g) w k in
    record { to = p + n; eq = e; sees = r }

-- a flag
pub flag-back : (v : Bool) (l : List ℕ) {s : List ℕ} {p : ℕ} → Sees s p (put_flag v l) → Back s (read_flag s p) v l
unfolding put put_flag read_flag
flag-back true l {s} {p} k =
    let (e, r) = sees-bits 1 1 l (omega arith) (omega arith) k in
    record { to = p + 1; eq = rw e; sees = r }
flag-back false l {s} {p} k =
    let (e, r) = sees-bits 1 0 l (omega arith) (omega arith) k in
    record { to = p + 1; eq = rw e; sees = r }

-- f(n) where on
pub or-back : (on : Bool) (n other v : ℕ) (l : List ℕ) {s : List ℕ} {p : ℕ} → fits_or on n other v ≡ true → n ≤ 64 → Sees s p (put_or on n v l) → Back s (read_or s p on n other) v l
unfolding fits_or put_or read_or
or-back true n other v l g w k = bits_back n v l g w k
or-back false n other v l {s} {p} g w k = record { to = p; eq = ap (λ x. reads x p) (sym (eqb-true v other g)); sees = k }

-- a flag that is not there is the one that it counts as
same_flag : (other v : Bool) → pick other v (not v) ≡ true → other ≡ v
same_flag true true e = refl
same_flag true false e = sym e
same_flag false true e = e
same_flag false false e = refl

-- a flag where on
pub flag-or-back : (on other v : Bool) (l : List ℕ) {s : List ℕ} {p : ℕ} → flag_fits_or on other v ≡ true → Sees s p (put_flag_or on v l) → Back s (flag_or s p on other) v l
unfolding flag_fits_or put_flag_or flag_or
flag-or-back true other v l g k = flag-back v l k
flag-or-back false other v l {s} {p} g k = record { to = p; eq = ap (λ x. reads x p) (same_flag other v g); sees = k }

-- a flag that is always there
pub flag-always-back : (v : Bool) (l : List ℕ) {s : List ℕ} {p : ℕ} → Sees s p (put_flag v l) → Back s (flag_or s p true false) v l
unfolding flag_or
flag-always-back v l k = flag-back v l k

-- uvlc where on
pub uvlc-or-back : (on : Bool) (v : ℕ) (l : List ℕ) {s : List ℕ} {p : ℕ} → uvlc_fits_or on v ≡ true → Sees s p (put_uvlc_or on v l) → Back s (uvlc_or 32 s p on) v l
unfolding uvlc_fits_or put_uvlc_or uvlc_or put
uvlc-or-back true v l {s} {p} g k =
    let h = ltb-true v (2 ^ 32 - 1) g in
    let (e, r) = sees-uvlc v l (omega arith) k in
    record { to = p + uvlc_width v; eq = e; sees = r }
uvlc-or-back false v l {s} {p} g k = record { to = p; eq = ap (λ x. reads x p) (sym (eqb-true v 0 g)); sees = k }

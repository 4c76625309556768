-- What a syntax reads depends only on the bits that it reads, and moves with them.
use Prim.Native.Nat.{ℕ, zero, suc, ◌+◌, ◌-◌, ◌≤◌, ◌<◌}
use native.Mathlib.Omega.{arith}
use native.Mathlib.Nat.{add_assoc}
use native.Mathlib.Decide.{dec_lt}
use mathlib.Core.Path.{◌≡◌, refl, sym, ap, subst, ◌∙◌}
use mathlib.Core.List.{List}
use mathlib.Core.Bool.{Bool, true, false, ◌&&◌, cond as pick}
use lib.ListN.{length}
use lib.Dec.{ltb}
use Rattle.bitio.specs.Bits.{Reading, fails, reads, and_then, bit_at, bits_at, bits_in, read_bits}
use Rattle.bitio.proofs.BitLaws.{read-there, read_past, read_wide}
use Rattle.syntax.specs.Syntax.{Syntax, done, field, refuse, branch, run}

-- the m bits of s at p are those of t at q, which are there
pub record Same (s : List ℕ) (p : ℕ) (t : List ℕ) (q m : ℕ) : Type 0 where
  pub bits : (i : ℕ) → i < m → bit_at s (p + i) ≡ bit_at t (q + i)
  pub there : q + m ≤ bits_in (length t)

-- x, read at p, is what y reads at q as well, if the bits in between are the same
abbrev pub Moves : {A : Type 0} → List ℕ → ℕ → List ℕ → ℕ → Reading A → Reading A → Type 0
Moves s p t q (fails k) y = Unit {0}
Moves s p t q (reads a r) y = (p ≤ r) × ((m : ℕ) → r ≡ p + m → Same s p t q m → y ≡ reads a (q + m))

-- the first of them are the same
same-front : {s t : List ℕ} {p q : ℕ} (m n : ℕ) → Same s p t q (m + n) → Same s p t q m
same-front m n x = record { bits = λ i l. x.bits i (omega arith); there = omega (arith, x.there) }

-- and those behind them
same_back : {s t : List ℕ} {p q : ℕ} (m n : ℕ) → Same s p t q (m + n) → Same s (p + m) t (q + m) n
same_back {s} {t} {p} {q} m n x =
    record {
      bits = λ i l. rw (add_assoc p m i, add_assoc q m i) (x.bits (m + i) (omega arith));
      there = omega (arith, x.there);
    }

same_number : {s t : List ℕ} {p q : ℕ} (m : ℕ) → Same s p t q m → bits_at s p m ≡ bits_at t q m
unfolding bits_at
same_number zero x = refl
same_number (suc m) x =
    let a = same_number m (record { bits = λ i l. x.bits i (omega arith); there = omega (arith, x.there) }) in
    rw (a, x.bits m (omega arith))

there-too : {s t : List ℕ} {p q : ℕ} (m : ℕ) → m ≤ 64 → Same s p t q m → read_bits t q m ≡ reads (bits_at s p m) (q + m)
there-too {s} {t} {p} {q} m h x = read-there t q m h x.there ∙ ap (λ v. reads v (q + m)) (sym (same_number m x))

bits-move : (s t : List ℕ) (p q n : ℕ) → Moves s p t q (read_bits s p n) (read_bits t q n)
bits-move s t p q n =
    elim (dec_lt 64 n) [
      | yes w ↦ rw (read_wide s p n w) tt
      | no w ↦
          elim (dec_lt (bits_in (length s)) (p + n)) [
            | yes l ↦ rw (read_past s p n l) tt
            | no l ↦
                rw (read-there s p n (omega arith) (omega arith))
                (omega arith, λ m e x. let d : n ≡ m = omega arith in rw d (there-too m (omega arith) x))
          ]
    ]

module _ {A B : Type 0} (k : B → Syntax A) (s t : List ℕ) (f : (b : B) (u v : ℕ) → Moves s u t v (run (k b) s u) (run (k b) t v)) (p q : ℕ) where
  then-move : (x y : Reading B) → Moves s p t q x y → Moves s p t q (and_then x (λ v r. run (k v) s r)) (and_then y (λ v r. run (k v) t r))
  then-move (fails j) y h = tt
  then-move (reads b u) y h = behind (run (k b) s u) refl
    where
      behind : (z : Reading A) → run (k b) s u ≡ z → Moves s p t q z (and_then y (λ v r. run (k v) t r))
      behind (fails j) e = tt
      behind (reads a r) e =
          let up : u ≤ r = (rw e at (f b u q)).0 in (
            omega arith,
            λ m d x.
                let m₁ = u - p in
                let m₂ = r - u in
                let o : m ≡ m₁ + m₂ = omega arith in
                let x' : Same s p t q (m₁ + m₂) = rw o at x in
                let w : u ≡ p + m₁ = omega arith in
                let first : y ≡ reads b (q + m₁) = h.1 m₁ w (same-front m₁ m₂ x') in
                let next : Same s u t (q + m₁) m₂ = subst (λ (z : ℕ). Same s z t (q + m₁) m₂) (sym w) (same_back m₁ m₂ x') in
                let last : run (k b) t (q + m₁) ≡ reads a (q + m₁ + m₂) = (rw e at (f b u (q + m₁))).1 m₂ (omega arith) next in
                ap (λ y. and_then y (λ v r. run (k v) t r)) first ∙ last ∙ ap (reads a) (omega arith),
          )

pick-move : {A : Type 0} (s t : List ℕ) (p q n : ℕ) (b : Bool) (x y : Reading A) → Moves s p t q x y → Moves s p t q (pick b (fails n) x) (pick b (fails n) y)
pick-move s t p q n true x y h = tt
pick-move s t p q n false x y h = h

-- what is read at p is read at q as well, where the bits are the same
pub moves : {A : Type 0} (f : Syntax A) (s t : List ℕ) (p q : ℕ) → Moves s p t q (run f s p) (run f t q)
unfolding run
moves (done a) s t p q = (omega arith, λ m e x. ap (reads a) (omega arith))
moves (field true n k) s t p q = then-move k s t (λ b u v. moves (k b) s t u v) p q (read_bits s p n) (read_bits t q n) (bits-move s t p q n)
moves (field false n k) s t p q = moves (k 0) s t p q
moves (refuse r n k) s t p q = pick-move s t p q n (ltb 0 n && r) (run k s p) (run k t q) (moves k s t p q)
moves (branch true x y k) s t p q = then-move k s t (λ b u v. moves (k b) s t u v) p q (run x s p) (run x t q) (moves x s t p q)
moves (branch false x y k) s t p q = then-move k s t (λ b u v. moves (k b) s t u v) p q (run y s p) (run y t q) (moves y s t p q)

-- the same, as a law on what was read
pub local : {A : Type 0} (f : Syntax A) {s t : List ℕ} {p q m : ℕ} {a : A} → run f s p ≡ reads a (p + m) → Same s p t q m → run f t q ≡ reads a (q + m)
local f {s} {t} {p} {q} {m} e x = (rw e at (moves f s t p q)).1 m refl x

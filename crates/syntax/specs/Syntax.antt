-- Bit syntax as AV1 5 writes it: a small program of fields, and what reading it comes to.
use Rattle.std.specs.Prelude.{ℕ, List, Bool, true, ◌&&◌, cond as pick, ltb}
use Rattle.bitio.specs.Bits.{Reading, fails, reads, and_then, read_bits}

pub data Syntax : Type 0 → Type 1 where
  -- nothing more: this is what was read
  done : {A : Type 0} → A → Syntax A
  -- f(n) where on, else 0 and no bits; then what follows, by its value
  field : {A : Type 0} → Bool → ℕ → (ℕ → Syntax A) → Syntax A
  -- refused with this number, from 1 on, where the test holds
  refuse : {A : Type 0} → Bool → ℕ → Syntax A → Syntax A
  -- one syntax or the other, then what follows, by its value
  branch : {A B : Type 0} → Bool → Syntax B → Syntax B → (B → Syntax A) → Syntax A

-- this syntax, then what follows
abbrev pub sub : {A B : Type 0} → Syntax B → (B → Syntax A) → Syntax A
sub x k = branch true x x k

-- nothing is kept
abbrev pub read_over : Syntax (Unit {0})
read_over = done tt

-- what reading it at a bit position comes to; 14: the bits run out
unfoldable pub run : {A : Type 0} → Syntax A → List ℕ → ℕ → Reading A
run (done a) s p = reads a p
run (field on n k) s p = and_then (pick on (read_bits s p n) (reads 0 p)) (λ v q. run (k v) s q)
run (refuse t n k) s p = pick (ltb 0 n && t) (fails n) (run k s p)
run (branch t x y k) s p = and_then (pick t (run x s p) (run y s p)) (λ v q. run (k v) s q)

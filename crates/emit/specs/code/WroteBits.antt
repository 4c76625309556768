-- Bits written one field after the other.
use Rattle.std.specs.Prelude.{ℕ, ◌+◌, ◌*◌, ◌≤◌, ◌≡◌, List, [], ◌++◌, length, take}
use Rattle.bitio.specs.Bits.{Bytes}
use Rattle.bitio.specs.Write.{unpack}
use Rattle.emit.specs.declared.seq_header.payload.Payload.{Payload}

-- from position p in d to position q in e: the bits before p, then these
pub record Added (d : List ℕ) (p : ℕ) (e : List ℕ) (q : ℕ) (bits : List ℕ) : Type 0 where
  pub len : length e ≡ length d
  pub bytes : Bytes d → Bytes e
  pub place : q ≡ p + length bits
  pub adds : take q (unpack e) ≡ take p (unpack d) ++ bits

-- f puts its bits before those of what follows; they were added, where d has room for them
pub record WroteBits (d : List ℕ) (p : ℕ) (e : List ℕ) (q : ℕ) (f : List ℕ → List ℕ) : Type 0 where
  pub apart : (l : List ℕ) → f l ≡ f [] ++ l
  pub added : p + length (f []) ≤ 8 * length d → Added d p e q (f [])

-- the same from one state of a payload to another
abbrev pub Wrote : Payload → Payload → (List ℕ → List ℕ) → Type 0
Wrote x y f = WroteBits x.bytes x.end.pos y.bytes y.end.pos f

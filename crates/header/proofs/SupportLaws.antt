-- Laws of reading a supported header.
use Prim.Native.Nat.{ℕ}
use native.Mathlib.Omega.{arith}
use mathlib.Core.Path.{◌≡◌}
use mathlib.Core.List.{List}
use Rattle.bitio.specs.Parse.{Answer, refused, accepted, and_next}
use Rattle.header.specs.Sequence.{Sequence, parse_sequence}
use Rattle.header.specs.Support.{support, supported_sequence}

-- a supported header is the one read
pub supported-read : (s : List ℕ) (q : Sequence) → supported_sequence s ≡ accepted q → parse_sequence s ≡ accepted q
unfolding supported_sequence and_next
supported-read s q e = go (parse_sequence s) e
  where
    two : (p : Sequence) (x : Answer Unit) → and_next x (λ _. accepted p) ≡ accepted q → accepted p ≡ accepted q
    two p (refused k) e = let z : ◌≡◌ {A = ℕ} 0 1 = cc in absurd (omega arith)
    two p (accepted u) e = e

    go : (x : Answer Sequence) → and_next x (λ p. and_next (support p.header) (λ _. accepted p)) ≡ accepted q → x ≡ accepted q
    go (refused k) e = let z : ◌≡◌ {A = ℕ} 0 1 = cc in absurd (omega arith)
    go (accepted p) e = two p (support p.header) e

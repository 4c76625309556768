-- Laws of the sequence header that replaces another: it can be emitted, and is short.
use Prim.Native.Nat.{ℕ, ◌≤◌, ◌<◌}
use native.Mathlib.Omega.{arith}
use mathlib.Core.Path.{◌≡◌, refl, sym}
use mathlib.Core.List.{List}
use mathlib.Core.Bool.{true}
use lib.ListN.{length}
use Rattle.bitio.specs.Parse.{Answer, refused, accepted, and_next}
use Rattle.header.specs.Sequence.{Sequence, parse_sequence}
use Rattle.header.specs.Support.{support, supported_sequence}
use Rattle.emit.specs.Emit.{sequence_bytes}
use Rattle.emittable.specs.Emittable.{emittable}
use Rattle.header.proofs.TimedLaws.{supports}
use Rattle.emit.proofs.EmitLaws.{parse-emittable, payload-length}
use Rattle.emit.proofs.TimedEmitLaws.{timed-emittable}
use Rattle.pictures.specs.Prepare.{timed_sequence}
use Rattle.pictures.specs.declared.settings.Settings.{Settings}

-- what can be emitted fits the room that is kept for it
pub emitted-at-most : (q : Sequence) → emittable q ≡ true → length (sequence_bytes q) ≤ 400
emitted-at-most q g = omega (arith, payload-length q g)

-- a header that was read and is supported
pub header_read : (s : List ℕ) (q : Sequence) → supported_sequence s ≡ accepted q → (parse_sequence s ≡ accepted q) × (support q.header ≡ accepted tt)
unfolding supported_sequence and_next
header_read s q e = go (parse_sequence s) e
  where
    supported-fine : (p : Sequence) (y : Answer Unit) → and_next y (λ _. accepted p) ≡ accepted q → (accepted p ≡ accepted q) × (y ≡ accepted tt)
    supported-fine p (refused k) e = let z : ◌≡◌ {A = ℕ} 0 1 = cc in absurd (omega arith)
    supported-fine p (accepted tt) e = (e, refl)

    go : (x : Answer Sequence) → and_next x (λ p. and_next (support p.header) (λ _. accepted p)) ≡ accepted q → (x ≡ accepted q) × (support q.header ≡ accepted tt)
    go (refused k) e = let z : ◌≡◌ {A = ℕ} 0 1 = cc in absurd (omega arith)
    go (accepted p) e =
        let f = supported-fine p (support p.header) e in
        let same : p ≡ q = cc in
        (f.0, rw (sym same) f.1)

module _ (set : Settings) (s : List ℕ) (q : Sequence) (read : supported_sequence s ≡ accepted q) (num : set.fps < 4294967296) (den : set.den < 4294967296) where
  pub renewal-emittable : emittable (timed_sequence set q) ≡ true
  renewal-emittable =
      let (r, f) = header_read s q read in
      timed-emittable set.fps set.den q (supports q.header f).full num den (parse-emittable s q r)

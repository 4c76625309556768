-- What demand 3 rests on in the header's laws.
use Prim.Native.Nat.{ℕ, ◌*◌, ◌^◌, ◌<◌}
use native.Mathlib.Omega.{arith}
use mathlib.Core.Path.{◌≡◌, sym, ap, ◌∙◌}
use mathlib.Core.List.{List, [], ◌++◌, append-nil}
use mathlib.Core.Bool.{true}
use lib.ListN.{length}
use Rattle.bitio.specs.Parse.{accepted}
use Rattle.header.specs.Sequence.{Sequence, parse_sequence}
use Rattle.header.specs.Support.{support}
use Rattle.emit.specs.Emit.{sequence_bytes}
use Rattle.emittable.specs.Emittable.{emittable}
use Rattle.header.proofs.TimedLaws.{supports, timed-of, timed-supported}
use Rattle.emit.proofs.EmitLaws.{parse-emittable, payload-length}
use Rattle.emit.proofs.TimedEmitLaws.{timed-emittable, timed-back as timed-read}
use Rattle.pictures.specs.Prepare.{timed_sequence}
use Rattle.pictures.specs.declared.settings.Settings.{Settings}
use Rattle.demand.specs.Premises.{InFields}

-- ---- a header that was read and is supported, timed

module _ (set : Settings) (fields : InFields set) (s : List ℕ) (q : Sequence) (read : parse_sequence s ≡ accepted q) (fine : support q.header ≡ accepted tt) where
  timed-emits : emittable (timed_sequence set q) ≡ true
  timed-emits = timed-emittable set.fps set.den q (supports q.header fine).full fields.fps fields.den (parse-emittable s q read)

  -- its payload is short
  pub timed-short : length (sequence_bytes (timed_sequence set q)) < 2 ^ 56
  timed-short = omega (arith, payload-length (timed_sequence set q) timed-emits)

  -- and reads as itself
  pub timed-back : parse_sequence (sequence_bytes (timed_sequence set q)) ≡ accepted (timed_sequence set q)
  timed-back =
      let n = payload-length (timed_sequence set q) timed-emits in
      let a = append-nil (sequence_bytes (timed_sequence set q)) in
      let l : 8 * length (sequence_bytes (timed_sequence set q) ++ []) < 2 ^ 64 = rw a (omega arith) in
      ap parse_sequence (sym a) ∙ timed-read set.fps set.den q (supports q.header fine).full fields.fps fields.den s [] read l

  -- it is supported
  pub timed-fine : support (timed_sequence set q).header ≡ accepted tt
  timed-fine = timed-supported set.fps set.den q.header _ (timed-of set.fps set.den q.header fine) fine

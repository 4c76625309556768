-- A sequence header that is read has fields that some payload reads as, and its bits are those that are put for them.
use Prim.Native.Nat.{ℕ}
use mathlib.Core.Path.{◌≡◌}
use mathlib.Core.List.{List}
use mathlib.Core.Bool.{◌&&◌}
use lib.Dec.{eqb}
use lib.ListN.{length}
use borrow.Author.Tests.{eq-eqb}
use Rattle.header.specs.SequenceRules.{ours}
use Rattle.header.specs.SequencePoints.{point_count}
use Rattle.header.specs.Sequence.{sequence_header}
use Rattle.emittable.specs.PutSequence.{put_opening, put_sequence}
use Rattle.emittable.specs.Emittable.{opening_fits, emittable}
use Rattle.header.specs.declared.seq_header.Opening.{Opening}
use Rattle.header.specs.declared.seq_header.OperatingPoint.{OperatingPoint}
use Rattle.emit.proofs.FormFields.{Holds, holds-reads, holds_then, Formed, formed-then}
use Rattle.emit.proofs.FormOpening.{opening-form}
use Rattle.emit.proofs.FormPoints.{points-form}
use Rattle.emit.proofs.FormCoding.{coding-form}

-- as many operating points as are said
counted : {s : List ℕ} {p q : ℕ} (o : Opening) (xs : List OperatingPoint) → length xs ≡ point_count o → Formed s p (opening_fits o) (put_opening o) q
    → Formed s p (opening_fits o && eqb (length xs) (point_count o)) (put_opening o) q
counted o xs e f = record { good = rw f.good (eq-eqb (length xs) (point_count o) e); bits = f.bits }

pub sequence-form : (s : List ℕ) (p : ℕ) → Holds (λ q e. Formed s p (emittable q) (put_sequence q) e) (sequence_header ours s p)
unfolding put_sequence emittable sequence_header
sequence-form s p =
    holds_then _ (opening-form _ _) (λ o p f1.
    holds_then _ (points-form _ _ _ _) (λ xs p f2.
    holds_then _ (coding-form _ _ _ _) (λ c p f3.
    holds-reads (formed-then (formed-then (counted o xs f2.0 f1) f2.1) f3))))

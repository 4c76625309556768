-- What the parts of assembly answer, by 01's numbers.
use Rattle.std.specs.Prelude.{ℕ, Option as Optional, Some, None, Result, Ok, Err}
use Rattle.std.proofs.Math.Option.{Option, none, some}
use Rattle.bitio.specs.Refusal.{number}
use Rattle.pictures.specs.Assemble.{Outcome, stopped, made}
use Rattle.pictures.specs.declared.fault.Fault.{Fault}

-- the segment, where one is named
abbrev pub segment_says : Optional ℕ → Option ℕ
segment_says None = none
segment_says (Some i) = some i

abbrev pub outcome_of : {A : Type 0} → Result A Fault → Outcome A
outcome_of (Ok a) = made a
outcome_of (Err f) = stopped (number f.refusal) (segment_says f.segment)

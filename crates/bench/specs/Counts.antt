-- An answer as one number for C: what was counted, or 0 after a refusal.
use Rattle.std.specs.Prelude.{ℕ}
use Rattle.bitio.specs.Parse.{Answer, refused, accepted}
use Rattle.container.specs.declared.units.Sizes.{Sizes}

abbrev pub units_or_none : Answer Sizes → ℕ
units_or_none (refused k) = 0
units_or_none (accepted x) = x.units

abbrev pub bytes_or_none : Answer ℕ → ℕ
bytes_or_none (refused k) = 0
bytes_or_none (accepted n) = n

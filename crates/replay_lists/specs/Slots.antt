-- What a request for the slot of refresh flags is answered.
use Rattle.std.specs.Prelude.{ℕ, List, [], ◌∷◌}
use Rattle.pictures.specs.Prepare.{slot_of}
use Rattle.protocol.specs.Answers.{parts_of, Numbered, numbered, with_numbers}

-- slot FLAGS
abbrev pub slot_told : ℕ → List ℕ → Numbered
slot_told flags ns = with_numbers (numbered (parts_of 0 0) ns) (slot_of flags ∷ [])

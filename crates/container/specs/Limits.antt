-- Limits of input, output and lent room (01, 'Refusals by operation').
use Rattle.std.specs.Prelude.{ℕ, List, Bool, cond as pick, ◌&&◌, length, leb}
use Rattle.bitio.specs.Limits.{limit}
use Rattle.bitio.specs.Parse.{Answer, refused, accepted}
use Rattle.container.specs.Stream.{stream_bytes}

-- room for bytes, and for the ends of units
pub record Room : Type 0 where
  pub bytes : ℕ
  pub ends : ℕ

-- room for bytes alone
abbrev pub bytes_room : ℕ → Room
bytes_room n = record { bytes = n; ends = 0 }

-- the room of two lent slices
abbrev pub room_in : List ℕ → List ℕ → Room
room_in d e = record { bytes = length d; ends = length e }

-- n bytes and the ends of u units have room
abbrev pub fits : ℕ → ℕ → Room → Bool
fits n u room = leb n limit && (leb n room.bytes && leb u room.ends)

-- 01: 35 comes last, if lent room or the limit cannot hold the result
abbrev pub fit_bytes : Room → Answer (List ℕ) → Answer (List ℕ)
fit_bytes room (refused k) = refused k
fit_bytes room (accepted bs) = pick (fits (length bs) 0 room) (accepted bs) (refused 35)

abbrev pub fit_units : Room → Answer (List (List ℕ)) → Answer (List (List ℕ))
fit_units room (refused k) = refused k
fit_units room (accepted us) = pick (fits (length (stream_bytes us)) (length us) room) (accepted us) (refused 35)

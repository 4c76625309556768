-- What the passes that write Annex B are given, and what they count.
use Rattle.std.specs.Prelude.{ℕ, ◌+◌, ◌≤◌, ◌≡◌, List, length}
use Rattle.std.proofs.Math.Option.{Option}
use Rattle.bitio.specs.Parse.{Answer, refused, accepted}
use Rattle.bitio.specs.Leb.{leb_bytes}
use Rattle.obu.specs.Obu.{ext_bytes}
use Rattle.container.specs.AnnexB.{annexb_bytes}

-- a count, if there is one, of at most m
abbrev pub AtMost : ℕ → Answer ℕ → Type 0
AtMost m (refused k) = Unit
AtMost m (accepted n) = n ≤ m

-- the length of an OBU's bytes in Annex B: header, extension and payload
abbrev pub inner_length : Option ℕ → ℕ → ℕ
inner_length e n = 1 + length (ext_bytes e) + n

-- how many bytes there are with their length before them
abbrev pub framed_length : ℕ → ℕ
framed_length n = length (leb_bytes n) + n

-- units that are read, and have room in Annex B
pub record AnnexbRoom (units : List (List ℕ)) (d : List ℕ) : Type 0 where
  pub bytes : List ℕ
  pub made : annexb_bytes units ≡ accepted bytes
  pub room : length bytes ≤ length d

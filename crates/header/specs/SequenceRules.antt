-- Where the Rust reads a sequence header otherwise than AV1 5.5, and 01 follows it: one definition serves both.
use Rattle.std.specs.Prelude.{ℕ, suc, ◌*◌, List, Bool, true, false, length}

pub record Rules : Type 0 where
  -- a uvlc with so many leading zeros is refused
  pub zeros : ℕ
  -- separate_uv_delta_q stands in a monochrome header too
  pub mono_delta : Bool
  -- both subsampling flags of a monochrome header
  pub mono_subsampling : Bool

-- the Rust's, and 01's
abbrev pub ours : Rules
ours = record { zeros = 32; mono_delta = true; mono_subsampling = false }

-- AV1's own, for a header in s: any number of leading zeros, of which there are at most as many as bits
abbrev pub av1 : List ℕ → Rules
av1 s = record { zeros = suc (8 * length s); mono_delta = false; mono_subsampling = true }

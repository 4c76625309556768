-- AV1 6.8.2 frame_type.
use Rattle.std.specs.Prelude.{ℕ, Bool, true, false, cond as pick, eqb}
pub use Rattle.frame.specs.declared.frame_header.FrameType.{FrameType}
pub use Rattle.frame.specs.declared.frame_header.FrameType.TheVariants.{Key, Inter, IntraOnly, Switch}

-- its number, in two bits
abbrev pub type_number : FrameType → ℕ
type_number Key = 0
type_number Inter = 1
type_number IntraOnly = 2
type_number Switch = 3

-- the type of a number; one above 3, which no two bits give, is neither intra nor a switch
abbrev pub frame_type_of : ℕ → FrameType
frame_type_of n = pick (eqb n 0) Key (pick (eqb n 2) IntraOnly (pick (eqb n 3) Switch Inter))

abbrev pub is_key : FrameType → Bool
is_key Key = true
is_key Inter = false
is_key IntraOnly = false
is_key Switch = false

abbrev pub is_switch : FrameType → Bool
is_switch Key = false
is_switch Inter = false
is_switch IntraOnly = false
is_switch Switch = true

-- AV1 5.9.2 FrameIsIntra
abbrev pub is_intra : FrameType → Bool
is_intra Key = true
is_intra Inter = false
is_intra IntraOnly = true
is_intra Switch = false

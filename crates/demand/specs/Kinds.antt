-- What a unit is, as its bytes say, and whose position a position is (01, 'What demand 3 speaks of').
use Rattle.std.specs.Prelude.{ℕ, suc, ◌-◌, List, [], ◌∷◌, Bool, false, true, cond as pick, ◌&&◌, get_or, ltb}
use Rattle.bitio.specs.Parse.{Answer, refused, accepted, and_next}
use Rattle.header.specs.Sequence.{Sequence}
use Rattle.frame.specs.FrameType.{is_key}
use Rattle.frame.specs.declared.frame_header.FrameHeaderInfo.{FrameHeaderInfo}
use Rattle.frame.specs.declared.frame_header.FrameHeaderInfo.TheVariants.{Existing, Frame}
use Rattle.blocks.specs.declared.blocks.Kind.{Kind}
use Rattle.blocks.specs.declared.blocks.Kind.TheVariants.{Key, Golden, Show}
use Rattle.frame.specs.UnitFrame.{unit_frame}

-- by the unit's frame: a shown key makes a key unit, showing a slot again a show unit, everything else a golden unit
abbrev pub frame_kind : FrameHeaderInfo → Kind
frame_kind (Existing slot) = Show
frame_kind (Frame f) = pick (is_key f.frame_type && f.show_frame) Key Golden

unfoldable pub unit_kind : Sequence → List ℕ → Answer Kind
unit_kind q u = and_next (unit_frame true q u) (λ x. accepted (frame_kind x))

abbrev pub says_key : Answer Kind → Bool
says_key (refused n) = false
says_key (accepted Key) = true
says_key (accepted Golden) = false
says_key (accepted Show) = false

abbrev pub is_key_unit : Sequence → List ℕ → Bool
is_key_unit q u = says_key (unit_kind q u)

-- position 1 is the first
abbrev pub unit_at : List (List ℕ) → ℕ → List ℕ
unit_at us p = get_or us (p - 1) []

-- The segments take their positions one after the other, as many as they have frames, ns; k positions lie before this one.
unfoldable pub segment_behind : List ℕ → ℕ → ℕ
segment_behind [] k = 0
segment_behind (n ∷ ns) k = pick (ltb k n) 0 (suc (segment_behind ns (k - n)))

-- the segment whose position p is, from the segments' frames
abbrev pub segment_of : List ℕ → ℕ → ℕ
segment_of ns p = segment_behind ns (p - 1)

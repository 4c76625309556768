-- The frame of a unit (01, 'Unit list and cue list' and 'Player').
use Rattle.std.specs.Prelude.{ℕ, List, Bool, cond as pick, ◌&&◌, eqb, ltb}
use Rattle.bitio.specs.Parse.{Answer, refused, accepted, and_next}
use Rattle.obu.specs.Obu.{Obu, obus}
use Rattle.obu.specs.Unit.{is_frame, count, first_payload}
use Rattle.header.specs.Sequence.{Sequence}
use Rattle.frame.specs.Frame.{parse_frame}
use Rattle.frame.specs.declared.frame_header.FrameHeaderInfo.{FrameHeaderInfo}

-- the payload of the first: 28 no frame; 39 more than one, where it must be the only one
unfoldable pub frame_payload : Bool → List Obu → Answer (List ℕ)
frame_payload sole os =
    pick (eqb (count is_frame os) 0) (refused 28) (pick (sole && ltb 1 (count is_frame os)) (refused 39) (accepted (first_payload is_frame os)))

-- its header under the sequence header q: 1 to 5; 28; 39; 14, 17 to 19
unfoldable pub unit_frame : Bool → Sequence → List ℕ → Answer FrameHeaderInfo
unit_frame sole q u = and_next (obus u) (λ os. and_next (frame_payload sole os) (λ f. parse_frame q f))

-- The player: what each kind of unit shows and leaves, and each refusal.
use Rattle.std.specs.Prelude.{ℕ, List, [], ◌∷◌, ◌++◌, map, replicate, Some, None}
use Rattle.std.proofs.Math.Option.{Option, none, some}
use Rattle.bitio.specs.Parse.{Answer, refused, accepted, answer}
use mir.Val.{bool_byte}
use Rattle.player.specs.Player.{Held, State, start, play, state_after}
use Rattle.cases.specs.Rows.{Row}
use Rattle.assemble.specs.Examples.{payload_k}

-- a position, or none
abbrev shown_list : Option ℕ → List ℕ
shown_list none = []
shown_list (some q) = q ∷ []

-- a slot: its position, showable, key; nothing if it is empty
abbrev slot_numbers : Held → List ℕ
slot_numbers None = []
slot_numbers (Some s) = s.position ∷ bool_byte s.showable ∷ bool_byte s.key ∷ []

-- a unit played under a position: what is shown, and the slots afterwards
abbrev played_as : State → ℕ → List ℕ → Answer (List (List ℕ))
played_as st p u = answer (λ r. shown_list r.shown ∷ map slot_numbers r.state.slots) (play st p u)

-- K's sequence header; a shown key; a shown frame that refreshes slot 3
abbrev header_obu_bytes : List ℕ
header_obu_bytes = 0x0A ∷ 0x09 ∷ payload_k

abbrev key_obu_bytes : List ℕ
key_obu_bytes = 0x32 ∷ 0x01 ∷ 0x10 ∷ []

abbrev golden_obu_bytes : List ℕ
golden_obu_bytes = 0x32 ∷ 0x02 ∷ 0x38 ∷ 0x10 ∷ []

-- hidden, for slot 1: a showable key, and a frame that is not showable
abbrev hidden_key : List ℕ
hidden_key = 0x32 ∷ 0x02 ∷ 0x08 ∷ 0x02 ∷ []

abbrev hidden : List ℕ
hidden = 0x32 ∷ 0x03 ∷ 0x20 ∷ 0x00 ∷ 0x40 ∷ []

-- a frame header of one byte, that shows a slot again
abbrev shown_again : ℕ → List ℕ
shown_again b = 0x1A ∷ 0x01 ∷ b ∷ []

-- after a key under 1, and then a golden under 2
abbrev keyed : State
keyed = state_after start 1 (header_obu_bytes ++ key_obu_bytes)

abbrev boarded : State
boarded = state_after keyed 2 golden_obu_bytes

abbrev of_key : List ℕ
of_key = 1 ∷ 0 ∷ 1 ∷ []

abbrev of_both : List (List ℕ)
of_both = replicate 3 of_key ++ ((2 ∷ 1 ∷ 0 ∷ []) ∷ replicate 4 of_key)

-- ---- the rows

abbrev pub player_rows : List Row
player_rows =
    -- a shown key fills all eight slots, not showable; the header may stand behind the frame
    (played_as start 1 (header_obu_bytes ++ key_obu_bytes), accepted ((1 ∷ []) ∷ replicate 8 of_key))
    ∷ (played_as start 1 (key_obu_bytes ++ header_obu_bytes), accepted ((1 ∷ []) ∷ replicate 8 of_key))
    -- a golden fills its slot; a show unit shows it and changes nothing
    ∷ (played_as keyed 2 golden_obu_bytes, accepted ((2 ∷ []) ∷ of_both))
    ∷ (played_as boarded 3 (shown_again 0xB8), accepted ((2 ∷ []) ∷ of_both))
    -- a hidden key is not shown, and fills slot 1; shown again it fills all eight, its marks kept
    ∷ (played_as start 5 (header_obu_bytes ++ hidden_key), accepted ([] ∷ [] ∷ (5 ∷ 1 ∷ 1 ∷ []) ∷ replicate 6 []))
    ∷ (played_as (state_after start 5 (header_obu_bytes ++ hidden_key)) 6 (shown_again 0x98), accepted ((5 ∷ []) ∷ replicate 8 (5 ∷ 1 ∷ 1 ∷ [])))
    -- a refused unit changes nothing
    ∷ (played_as boarded 9 (shown_again 0x80 ++ shown_again 0x80), refused 39)
    ∷ (played_as (state_after boarded 9 (shown_again 0x80 ++ shown_again 0x80)) 3 (shown_again 0xB8), accepted ((2 ∷ []) ∷ of_both))
    -- the forbidden bit; a sequence header cut short, and a reduced one; no header; no frame; two frames; a frame cut short
    ∷ (played_as start 1 (header_obu_bytes ++ (0x80 ∷ [])), refused 1)
    ∷ (played_as start 1 ((0x0A ∷ 0x01 ∷ 0x00 ∷ []) ++ key_obu_bytes), refused 14)
    ∷ (played_as start 1 ((0x0A ∷ 0x06 ∷ 0x19 ∷ 0x4C ∷ 0xFF ∷ 0xF3 ∷ 0x18 ∷ 0x80 ∷ []) ++ key_obu_bytes), refused 17)
    ∷ (played_as start 1 (key_obu_bytes ++ key_obu_bytes), refused 26)
    ∷ (played_as start 1 header_obu_bytes, refused 28)
    ∷ (played_as start 1 (header_obu_bytes ++ key_obu_bytes ++ key_obu_bytes), refused 39)
    ∷ (played_as start 1 (header_obu_bytes ++ (0x32 ∷ 0x00 ∷ [])), refused 14)
    -- an empty slot; one that is not showable
    ∷ (played_as start 1 (header_obu_bytes ++ shown_again 0xB8), refused 37)
    ∷ (played_as (state_after start 5 (header_obu_bytes ++ hidden)) 6 (shown_again 0x98), refused 38)
    ∷ []

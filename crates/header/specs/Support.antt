-- What a list of units asks of its sequence header.
use Rattle.std.specs.Prelude.{ℕ, List, Bool, not, ◌&&◌, cond as pick}
use Rattle.bitio.specs.Parse.{Answer, refused, accepted, and_next}
use Rattle.header.specs.Sequence.{Sequence, parse_sequence}
use Rattle.header.specs.declared.seq_header.Opening.{Opening}
use Rattle.header.specs.declared.seq_header.SequenceHeader.{SequenceHeader}

-- AV1 5.9.2: shown frames carry temporal_point_info
abbrev pub has_point_info : Opening → Bool
has_point_info o = o.model.decoder_model_info_present && not o.timing.equal_picture_interval

-- check_supported: 17 reduced still, 18 frame ids, 19 decoder model with unequal intervals, 20 film grain, in that order
unfoldable pub support : SequenceHeader → Answer Unit
support h =
    pick h.opening.reduced_still_picture_header (refused 17) (
    pick h.coding.ids.frame_id_numbers_present (refused 18) (
    pick (has_point_info h.opening) (refused 19) (
    pick h.coding.film_grain_params_present (refused 20) (accepted tt))))

-- the fields of a payload that a list of units can have: 14 to 16, then 17 to 20
unfoldable pub supported_sequence : List ℕ → Answer Sequence
supported_sequence s = and_next (parse_sequence s) (λ q. and_next (support q.header) (λ _. accepted q))

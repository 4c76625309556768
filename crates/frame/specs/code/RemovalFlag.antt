-- AV1 5.9.2 buffer_removal_time_present_flag of a frame header: 1 if removal times are read.
use Rattle.std.specs.Prelude.{ℕ, List, true, eqb}
use Rattle.bitio.specs.Bits.{Reading}
use Rattle.syntax.specs.Syntax.{done, field, branch, sub, run}
use Rattle.header.specs.Sequence.{Sequence}
use Rattle.frame.specs.Frame.{frame_front}

-- 0 where the flag is not in the bits: show_existing_frame, or no decoder model
unfoldable pub removal_flag : Sequence → List ℕ → Reading ℕ
removal_flag q s =
    run
    (field true 1 (λ existing.
    branch (eqb existing 1) (done 0)
    (sub (frame_front true q.header) (λ x. field q.header.opening.model.decoder_model_info_present 1 (λ v. done v)))
    (λ v. done v)))
    s 0

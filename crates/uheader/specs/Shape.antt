-- AV1 5.9.2 uncompressed_header, from the removal times to what stands before tile_info.
use Rattle.std.specs.Prelude.{ℕ, ◌+◌, List, Bool, true, not, ◌&&◌, ◌||◌, cond as pick, eqb}
use Rattle.syntax.specs.Syntax.{Syntax, done, field, sub, read_over}
use Rattle.syntax.specs.Repeat.{times}
use Rattle.header.specs.declared.seq_header.Coding.{Coding}
use Rattle.header.specs.declared.seq_header.SequenceHeader.{SequenceHeader}
use Rattle.frame.specs.FrameType.{is_intra}
use Rattle.frame.specs.Frame.{refresh_flags}
use Rattle.frame.specs.declared.frame_header.FrameFront.{FrameFront}
use Rattle.geometry.specs.Refs.{frame_refs}
use Rattle.geometry.specs.Size.{frame_geometry}
use Rattle.geometry.specs.declared.slots.RefSlot.{RefSlot}
use Rattle.geometry.specs.declared.size.Size.{Size}
use Rattle.geometry.specs.declared.size.SizeRules.{SizeRules}
use Rattle.uheader.specs.declared.shape.Shape.{Shape}

abbrev pub intra : FrameFront → Bool
intra x = is_intra x.start.frame_type

-- ref_order_hint of the eight slots, read over
unfoldable pub ref_order_hints : Bool → ℕ → Syntax (Unit {0})
ref_order_hints on n =
    sub (times (pick on 8 0) (field true n (λ hint. read_over))) (λ last.
    done last)

-- whether they are there: not for an intra frame that refreshes all slots
abbrev pub hints_listed : Coding → FrameFront → ℕ → Bool
hints_listed c x flags = (not (intra x) || not (eqb flags 255)) && (x.start.error_resilient_mode && c.tools.enable_order_hint)

-- what the sequence header says of sizes
abbrev pub size_rules : Coding → SizeRules
size_rules c = record { largest = c.size; enable_superres = c.filters.enable_superres }

-- the size may be a reference's
abbrev pub by_refs : FrameFront → Bool
by_refs x = not (intra x) && (x.modes.frame_size_override_flag && not x.start.error_resilient_mode)

-- of an inter frame: allow_high_precision_mv, which is kept, to use_ref_frame_mvs
unfoldable pub motion_modes : Coding → FrameFront → Syntax Bool
motion_modes c x =
    field (not (intra x) && not x.modes.force_integer_mv) 1 (λ fine.
    field (not (intra x)) 1 (λ switchable.
    field (not (intra x) && eqb switchable 0) 2 (λ filter.
    field (not (intra x)) 1 (λ motion.
    field (not (intra x) && (not x.start.error_resilient_mode && c.tools.enable_ref_frame_mvs)) 1 (λ mvs.
    done (eqb fine 1))))))

abbrev pub shape_of : ℕ → List ℕ → Size → (intrabc fine : Bool) → Shape
shape_of flags refs z intrabc fine =
    record {
      refresh_frame_flags = flags;
      ref_frame_idx = refs;
      size = z;
      allow_intrabc = intrabc;
      allow_high_precision_mv = fine;
    }

-- n removal times; the slots are those before the frame
unfoldable pub frame_shape : SequenceHeader → ℕ → List RefSlot → FrameFront → Syntax Shape
frame_shape h n slots x =
    sub (refresh_flags h.opening.model n x.start) (λ flags.
    sub (ref_order_hints (hints_listed h.coding x flags) (h.coding.screen.order_hint_bits_minus_1 + 1)) (λ hints.
    sub (frame_refs (not (intra x)) h.coding.tools.enable_order_hint) (λ refs.
    sub (frame_geometry (size_rules h.coding) x.modes.frame_size_override_flag (by_refs x) refs slots) (λ z.
    field (intra x && (x.modes.allow_screen_content_tools && eqb z.upscaled_width z.frame_width)) 1 (λ intrabc.
    sub (motion_modes h.coding x) (λ fine.
    field (not x.modes.disable_cdf_update) 1 (λ disable.
    done (shape_of flags refs z (eqb intrabc 1) fine))))))))

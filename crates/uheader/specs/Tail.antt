-- AV1 5.9.2 uncompressed_header behind tile_info, of which the quantizer is kept.
use Rattle.std.specs.Prelude.{ℕ, List, map, Bool, true, not, ◌&&◌, eqb, get_or}
use Rattle.syntax.specs.Syntax.{Syntax, done, field, sub, read_over}
use Rattle.header.specs.declared.seq_header.Coding.{Coding}
use Rattle.frame.specs.Frame.{primary_none}
use Rattle.frame.specs.declared.frame_header.FrameFront.{FrameFront}
use Rattle.geometry.specs.Slots.{empty_slot}
use Rattle.geometry.specs.declared.slots.RefSlot.{RefSlot}
use Rattle.params.specs.Quantization.{quantization_params}
use Rattle.params.specs.Segmentation.{segmentation_params}
use Rattle.params.specs.Deltas.{delta_q_params, delta_lf_params}
use Rattle.params.specs.Lossless.{coded_lossless}
use Rattle.params.specs.LoopFilter.{loop_filter_params}
use Rattle.params.specs.Cdef.{cdef_params}
use Rattle.params.specs.Restoration.{lr_params}
use Rattle.params.specs.SkipMode.{skip_mode_params}
use Rattle.params.specs.Motion.{global_motion_params}
use Rattle.params.specs.declared.quant.Quantizer.{Quantizer}
use Rattle.params.specs.declared.restoration.Restoration.{Restoration}
use Rattle.params.specs.declared.skip.OrderHints.{OrderHints}
use Rattle.uheader.specs.Shape.{intra}
use Rattle.uheader.specs.declared.shape.Shape.{Shape}

-- NumPlanes is above 1
abbrev pub color : Coding → Bool
color c = not c.color.mono_chrome

-- lr_params: unless all is lossless, which it is where CodedLossless holds at full width
abbrev pub restoration : Bool → Coding → Shape → Restoration
restoration lossless c z =
    record {
      on =
          not (lossless && eqb z.size.frame_width z.size.upscaled_width)
          && (not z.allow_intrabc && c.filters.enable_restoration);
      color = color c;
      use_128x128_superblock = c.tools.use_128x128_superblock;
      subsampled = c.sampling.subsample_x && c.sampling.subsample_y;
    }

-- loop_filter_params, cdef_params, lr_params and tx_mode_select
unfoldable pub filter_params : Bool → Coding → Shape → Syntax (Unit {0})
filter_params lossless c z =
    sub (loop_filter_params (not lossless && not z.allow_intrabc) (color c)) (λ last.
    sub (cdef_params (not lossless && (not z.allow_intrabc && c.filters.enable_cdef)) (color c)) (λ last.
    sub (lr_params (restoration lossless c z)) (λ last.
    field (not lossless) 1 (λ select.
    read_over))))

-- the order hints of the frame and of its references
abbrev pub order_hints : Coding → FrameFront → Shape → List RefSlot → OrderHints
order_hints c x z slots =
    record {
      refs = map (λ i. (get_or slots i empty_slot).order_hint) z.ref_frame_idx;
      order_hint = x.modes.order_hint;
      order_hint_bits_minus_1 = c.screen.order_hint_bits_minus_1;
    }

-- reference_select to global_motion_params
unfoldable pub motion_params : Coding → FrameFront → Shape → List RefSlot → Syntax (Unit {0})
motion_params c x z slots =
    field (not (intra x)) 1 (λ select.
    sub (skip_mode_params (eqb select 1 && c.tools.enable_order_hint) (order_hints c x z slots)) (λ present.
    field (not (intra x) && (not x.start.error_resilient_mode && c.tools.enable_warped_motion)) 1 (λ warped.
    field true 1 (λ reduced.
    sub (global_motion_params (not (intra x)) z.allow_high_precision_mv) (λ last.
    done last)))))

-- rule: how the bits of a signed number are taken where CodedLossless is judged
unfoldable pub frame_tail : (ℕ → ℕ → ℕ) → Coding → FrameFront → Shape → List RefSlot → Syntax Quantizer
frame_tail rule c x z slots =
    sub (quantization_params (color c) c.sampling.separate_uv_delta_q) (λ q.
    sub (segmentation_params (eqb x.modes.primary_ref_frame primary_none)) (λ alts.
    sub (delta_q_params q.base_q_idx) (λ present.
    sub (delta_lf_params (present && not z.allow_intrabc)) (λ last.
    sub (filter_params (coded_lossless rule q alts) c z) (λ last.
    sub (motion_params c x z slots) (λ last.
    done q))))))

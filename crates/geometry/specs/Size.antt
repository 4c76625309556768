-- AV1 5.9.5 to 5.9.8: the size of a frame.
use Rattle.std.specs.Prelude.{ℕ, ◌+◌, ◌*◌, ◌/◌, List, Bool, true, not, cond as pick, eqb, get_or, Option, Some, None, is_some}
use Rattle.syntax.specs.Syntax.{Syntax, done, field, branch, sub}
use Rattle.syntax.specs.Repeat.{repeat}
use Rattle.geometry.specs.Slots.{empty_slot}
use Rattle.geometry.specs.declared.slots.RefSlot.{RefSlot}
use Rattle.geometry.specs.declared.size.SizeRules.{SizeRules}
use Rattle.geometry.specs.declared.size.Size.{Size}

-- AV1 5.9.5 to 5.9.8: UpscaledWidth, FrameWidth, FrameHeight, RenderWidth and RenderHeight
abbrev pub size_of : ℕ → ℕ → ℕ → ℕ → ℕ → Size
size_of upscaled width height render_width render_height =
    record {
      upscaled_width = upscaled;
      frame_width = width;
      frame_height = height;
      render_width = render_width;
      render_height = render_height;
    }

-- AV1 5.9.6: rendered at another size
abbrev pub rendered_at : ℕ → ℕ → Size → Size
rendered_at width height z = size_of z.upscaled_width z.frame_width z.frame_height width height

-- AV1 5.9.8: FrameWidth is to UpscaledWidth as 8, SUPERRES_NUM, to the denominator, rounded
abbrev pub scaled_width : ℕ → ℕ → ℕ
scaled_width denom upscaled = (upscaled * 8 + denom / 2) / denom

-- AV1 5.9.8: scaled down
abbrev pub scaled_by : ℕ → Size → Size
scaled_by denom z =
    size_of z.upscaled_width (scaled_width denom z.upscaled_width) z.frame_height z.render_width z.render_height

-- AV1 5.9.5: neither scaled nor rendered at another size
abbrev pub plain_size : ℕ → ℕ → Size
plain_size width height = size_of width width height width height

-- AV1 5.9.5: what was read of a size, or the largest
abbrev pub size_read : SizeRules → Bool → ℕ → ℕ → Size
size_read rules over w h =
    plain_size (pick over w rules.largest.max_frame_width_minus_1 + 1) (pick over h rules.largest.max_frame_height_minus_1 + 1)

-- AV1 5.9.7: what is taken of a reference
abbrev pub slot_size : RefSlot → Size
slot_size slot = rendered_at slot.size.render_width slot.size.render_height (plain_size slot.size.upscaled_width slot.size.frame_height)

-- AV1 5.9.8 superres_params; SUPERRES_DENOM_MIN is 9
unfoldable pub superres_params : Bool → Size → Syntax Size
superres_params enabled z =
    field enabled 1 (λ scaled.
    field (eqb scaled 1) 3 (λ coded.
    done (scaled_by (pick (eqb scaled 1) (coded + 9) 8) z)))

-- AV1 5.9.5 frame_size; over: frame_size_override_flag
unfoldable pub frame_size : SizeRules → Bool → Syntax Size
frame_size rules over =
    field over (rules.largest.frame_width_bits_minus_1 + 1) (λ w.
    field over (rules.largest.frame_height_bits_minus_1 + 1) (λ h.
    sub (superres_params rules.enable_superres (size_read rules over w h)) (λ z.
    done z)))

-- AV1 5.9.6 render_size
unfoldable pub render_size : Size → Syntax Size
render_size z =
    field true 1 (λ differs.
    field (eqb differs 1) 16 (λ w.
    field (eqb differs 1) 16 (λ h.
    done (rendered_at (pick (eqb differs 1) (w + 1) z.upscaled_width) (pick (eqb differs 1) (h + 1) z.frame_height) z))))

-- AV1 5.9.2 and 5.9.7: frame_size, then render_size
unfoldable pub frame_and_render_size : SizeRules → Bool → Syntax Size
frame_and_render_size rules over =
    sub (frame_size rules over) (λ z.
    sub (render_size z) (λ z.
    done z))

-- AV1 5.9.7 found_ref, of reference i: asked up to the first that has the frame's size, whose slot is kept
unfoldable pub found_ref : List ℕ → ℕ → Option ℕ → Syntax (Option ℕ)
found_ref refs i found =
    field (not (is_some found)) 1 (λ b.
    done (pick (eqb b 1) (Some (get_or refs i 0)) found))

-- AV1 5.9.7: the size of a frame, by the slot of the reference that has it, if one does
unfoldable pub size_by_ref : SizeRules → Bool → List RefSlot → Option ℕ → Syntax Size
size_by_ref rules over slots (Some i) = superres_params rules.enable_superres (slot_size (get_or slots i empty_slot))
size_by_ref rules over slots None = frame_and_render_size rules over

-- AV1 5.9.7 frame_size_with_refs; refs: ref_frame_idx
unfoldable pub frame_size_with_refs : SizeRules → Bool → List ℕ → List RefSlot → Syntax Size
frame_size_with_refs rules over refs slots =
    sub (repeat (found_ref refs) 0 7 None) (λ found.
    sub (size_by_ref rules over slots found) (λ z.
    done z))

-- AV1 5.9.2: the size of a frame; by_refs: frame_size_override_flag, and the frame is not error resilient
unfoldable pub frame_geometry : SizeRules → Bool → Bool → List ℕ → List RefSlot → Syntax Size
frame_geometry rules over by_refs refs slots =
    branch by_refs (frame_size_with_refs rules over refs slots) (frame_and_render_size rules over) (λ z.
    done z)

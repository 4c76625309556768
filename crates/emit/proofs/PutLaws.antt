-- The bits of a header's fields stand before those of what follows, and there are not too many.
use mathlib.Core.Path.{◌≡◌, refl, sym, ap, ◌∙◌}
use Prim.Native.Nat.{ℕ, ◌+◌, ◌*◌, ◌≤◌, ◌<◌}
use native.Mathlib.Omega.{arith}
use mathlib.Core.List.{List, [], ◌∷◌, ◌++◌, append_assoc, append-nil}
use mathlib.Core.Bool.{Bool, true, false}
use mir.Val.{bool_byte}
use lib.Dec.{lit≤}
use lib.ListN.{length, length-append}
use Rattle.bitio.specs.Write.{bits_of, uvlc_width}
use Rattle.bitio.specs.Every.Every.{nothing}
use Rattle.bitio.proofs.EveryLaws.{every_append}
use Rattle.bitio.proofs.UnpackLaws.{length-bits}
use Rattle.bitio.proofs.UvlcFormLaws.{uvlc-most}
use Rattle.emittable.specs.PutFields.{put, put_or, put_flag, put_flag_or, put_uvlc_or}
use Rattle.emittable.specs.PutSequence.{put_timing, put_model, put_opening, put_point, put_points, put_size, put_ids, put_tools, put_screen, put_filters, put_color, put_sampling, put_coding, put_sequence}
use Rattle.header.specs.SequencePoints.{delay_bits}
use Rattle.header.specs.Sequence.{Sequence}
use Rattle.header.specs.declared.seq_header.TimingInfo.{TimingInfo}
use Rattle.header.specs.declared.seq_header.DecoderModelInfo.{DecoderModelInfo}
use Rattle.header.specs.declared.seq_header.Opening.{Opening}
use Rattle.header.specs.declared.seq_header.OperatingPoint.{OperatingPoint}
use Rattle.header.specs.declared.seq_header.FrameSize.{FrameSize}
use Rattle.header.specs.declared.seq_header.FrameIds.{FrameIds}
use Rattle.header.specs.declared.seq_header.Tools.{Tools}
use Rattle.header.specs.declared.seq_header.ScreenTools.{ScreenTools}
use Rattle.header.specs.declared.seq_header.Filters.{Filters}
use Rattle.header.specs.declared.seq_header.ColorDescription.{ColorDescription}
use Rattle.header.specs.declared.seq_header.ColorSampling.{ColorSampling}
use Rattle.header.specs.declared.seq_header.Coding.{Coding}
use Rattle.emit.proofs.PackLaws.{AreBits, are-bits}

-- f puts at most n bits before what it is given
pub record Puts (n : ℕ) (f : List ℕ → List ℕ) : Type 0 where
  pub apart : (l : List ℕ) → f l ≡ f [] ++ l
  pub bits : AreBits (f [])
  pub most : length (f []) ≤ n

-- one after the other
puts_then : {a b : ℕ} {f g : List ℕ → List ℕ} → Puts a f → Puts b g → Puts (a + b) (λ l. f (g l))
puts_then {a} {b} {f} {g} p q =
    let e = p.apart (g []) in
    record {
      apart = λ l. p.apart (g l) ∙ ap (λ x. f [] ++ x) (q.apart l) ∙ sym (append_assoc (f []) (g []) l) ∙ ap (λ x. x ++ l) (sym e);
      bits = rw e (every_append p.bits q.bits);
      most = omega (arith, ap length e, length-append (f []) (g []), p.most, q.most);
    }

-- at most so many, or more
wider : {a b : ℕ} {f : List ℕ → List ℕ} → a ≤ b → Puts a f → Puts b f
wider h p = record { apart = p.apart; bits = p.bits; most = omega (arith, p.most) }

-- no bits
puts_none : Puts 0 (λ l. l)
puts_none = record { apart = λ l. refl; bits = nothing; most = omega arith }

puts-bits : (n v : ℕ) → Puts n (put n v)
unfolding put
puts-bits n v =
    let e = append-nil (bits_of n v) in
    record { apart = λ l. ap (λ x. x ++ l) (sym e); bits = rw e (are-bits n v); most = omega (arith, ap length e, length-bits n v) }

puts-or : (on : Bool) (n v : ℕ) → Puts n (put_or on n v)
unfolding put_or
puts-or true n v = puts-bits n v
puts-or false n v = wider (omega arith) puts_none

puts-flag : (v : Bool) → Puts 1 (put_flag v)
unfolding put_flag
puts-flag v = puts-bits 1 (bool_byte v)

puts-flag-or : (on v : Bool) → Puts 1 (put_flag_or on v)
unfolding put_flag_or
puts-flag-or true v = puts-flag v
puts-flag-or false v = wider (omega arith) puts_none

puts-uvlc-or : (on : Bool) (v : ℕ) → Puts 65 (put_uvlc_or on v)
unfolding put_uvlc_or
puts-uvlc-or true v = let h = uvlc-most v in wider (omega arith) (puts-bits (uvlc_width v) (v + 1))
puts-uvlc-or false v = wider (omega arith) puts_none

-- AV1 5.5.3 timing_info
timing-puts : (full : Bool) (t : TimingInfo) → Puts 131 (put_timing full t)
unfolding put_timing
timing-puts full t =
    wider (lit≤ tt)
    (puts_then (puts-flag-or _ _)
    (puts_then (puts-or _ _ _)
    (puts_then (puts-or _ _ _)
    (puts_then (puts-flag-or _ _)
    (puts-uvlc-or _ _)))))

-- AV1 5.5.4 decoder_model_info
model-puts : (timed : Bool) (m : DecoderModelInfo) → Puts 48 (put_model timed m)
unfolding put_model
model-puts timed m =
    wider (lit≤ tt)
    (puts_then (puts-flag-or _ _)
    (puts_then (puts-or _ _ _)
    (puts_then (puts-or _ _ _)
    (puts_then (puts-or _ _ _)
    (puts-or _ _ _)))))

-- AV1 5.5.1, up to operating_points_cnt_minus_1
opening-puts : (o : Opening) → Puts 190 (put_opening o)
unfolding put_opening
opening-puts o =
    wider (lit≤ tt)
    (puts_then (puts-bits _ _)
    (puts_then (puts-flag _)
    (puts_then (puts-flag _)
    (puts_then (timing-puts _ _)
    (puts_then (model-puts _ _)
    (puts_then (puts-flag-or _ _)
    (puts-or _ _ _)))))))

-- AV1 5.5.1: one operating point, with AV1 5.5.5 operating_parameters_info
point-puts : (o : Opening) (x : OperatingPoint) → delay_bits o ≤ 32 → Puts 89 (put_point o x)
unfolding put_point
point-puts o x w =
    (puts_then (puts-or _ _ _)
    (puts_then (puts-bits _ _)
    (puts_then (puts-flag-or _ _)
    (puts_then (puts-flag-or _ _)
    (puts_then (wider w (puts-or _ _ _))
    (puts_then (wider w (puts-or _ _ _))
    (puts_then (puts-flag-or _ _)
    (puts_then (puts-flag-or _ _)
    (puts-or _ _ _)))))))))

points-puts : (o : Opening) (xs : List OperatingPoint) → delay_bits o ≤ 32 → Puts (89 * length xs) (put_points o xs)
unfolding put_points
points-puts o [] w = puts_none
points-puts o (x ∷ xs) w = wider (omega arith) (puts_then (point-puts o x w) (points-puts o xs w))

-- the largest frame
size-puts : (z : FrameSize) → z.frame_width_bits_minus_1 < 16 → z.frame_height_bits_minus_1 < 16 → Puts 40 (put_size z)
unfolding put_size
size-puts z w h =
    wider (omega arith)
    (puts_then (puts-bits _ _)
    (puts_then (puts-bits _ _)
    (puts_then (puts-bits _ _)
    (puts-bits _ _))))

-- the widths of frame ids
ids-puts : (full : Bool) (i : FrameIds) → Puts 8 (put_ids full i)
unfolding put_ids
ids-puts full i =
    wider (lit≤ tt)
    (puts_then (puts-flag-or _ _)
    (puts_then (puts-or _ _ _)
    (puts-or _ _ _)))

-- use_128x128_superblock to enable_ref_frame_mvs
tools-puts : (full : Bool) (t : Tools) → Puts 10 (put_tools full t)
unfolding put_tools
tools-puts full t =
    wider (lit≤ tt)
    (puts_then (puts-flag _)
    (puts_then (puts-flag _)
    (puts_then (puts-flag _)
    (puts_then (puts-flag-or _ _)
    (puts_then (puts-flag-or _ _)
    (puts_then (puts-flag-or _ _)
    (puts_then (puts-flag-or _ _)
    (puts_then (puts-flag-or _ _)
    (puts_then (puts-flag-or _ _)
    (puts-flag-or _ _))))))))))

-- screen content tools, integer motion vectors, and the order hint's width
screen-puts : (full hint : Bool) (t : ScreenTools) → Puts 7 (put_screen full hint t)
unfolding put_screen
screen-puts full hint t =
    wider (lit≤ tt)
    (puts_then (puts-flag-or _ _)
    (puts_then (puts-or _ _ _)
    (puts_then (puts-flag-or _ _)
    (puts_then (puts-or _ _ _)
    (puts-or _ _ _)))))

-- enable_superres to enable_restoration
filters-puts : (f : Filters) → Puts 3 (put_filters f)
unfolding put_filters
filters-puts f =
    wider (lit≤ tt)
    (puts_then (puts-flag _)
    (puts_then (puts-flag _)
    (puts-flag _)))

-- AV1 5.5.2 color_config up to the matrix coefficients
color-puts : (profile : ℕ) (c : ColorDescription) → Puts 28 (put_color profile c)
unfolding put_color
color-puts profile c =
    wider (lit≤ tt)
    (puts_then (puts-flag _)
    (puts_then (puts-flag-or _ _)
    (puts_then (puts-flag-or _ _)
    (puts_then (puts-flag _)
    (puts_then (puts-or _ _ _)
    (puts_then (puts-or _ _ _)
    (puts-or _ _ _)))))))

-- AV1 5.5.2 color_config from color_range on
sampling-puts : (profile : ℕ) (c : ColorDescription) (m : ColorSampling) → Puts 6 (put_sampling profile c m)
unfolding put_sampling
sampling-puts profile c m =
    wider (lit≤ tt)
    (puts_then (puts-flag-or _ _)
    (puts_then (puts-flag-or _ _)
    (puts_then (puts-flag-or _ _)
    (puts_then (puts-or _ _ _)
    (puts-flag _)))))

-- AV1 5.5.1 behind the operating points
coding-puts : (profile : ℕ) (full : Bool) (c : Coding) → c.size.frame_width_bits_minus_1 < 16 → c.size.frame_height_bits_minus_1 < 16 → Puts 103 (put_coding profile full c)
unfolding put_coding
coding-puts profile full c w h =
    (puts_then (size-puts _ w h)
    (puts_then (ids-puts _ _)
    (puts_then (tools-puts _ _)
    (puts_then (screen-puts _ _ _)
    (puts_then (filters-puts _)
    (puts_then (color-puts _ _)
    (puts_then (sampling-puts _ _ _)
    (puts-flag _))))))))

-- the whole header, with at most 32 operating points
pub sequence-puts : (q : Sequence) → delay_bits q.header.opening ≤ 32 → length q.points ≤ 32 → q.header.coding.size.frame_width_bits_minus_1 < 16
    → q.header.coding.size.frame_height_bits_minus_1 < 16 → Puts 3141 (put_sequence q)
unfolding put_sequence
sequence-puts q w n a b =
    wider (omega arith)
    (puts_then (opening-puts _)
    (puts_then (points-puts _ _ w)
    (coding-puts _ _ _ a b)))

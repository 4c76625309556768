-- AV1 5.5.1 sequence_header_obu behind the operating points. full: the header is not reduced.
use Rattle.std.specs.Prelude.{ℕ, ◌+◌, List, Bool, true, false, not, ◌&&◌, ◌||◌, eqb, ltb}
use Rattle.bitio.specs.Bits.{Reading, reads, and_then, read_bits}
use Rattle.bitio.specs.Fields.{read_flag, read_or, flag_or}
use Rattle.header.specs.SequenceRules.{Rules}
use Rattle.header.specs.declared.seq_header.FrameSize.{FrameSize}
use Rattle.header.specs.declared.seq_header.FrameIds.{FrameIds}
use Rattle.header.specs.declared.seq_header.Tools.{Tools}
use Rattle.header.specs.declared.seq_header.ScreenTools.{ScreenTools}
use Rattle.header.specs.declared.seq_header.Filters.{Filters}
use Rattle.header.specs.declared.seq_header.ColorDescription.{ColorDescription}
use Rattle.header.specs.declared.seq_header.ColorSampling.{ColorSampling}
use Rattle.header.specs.declared.seq_header.Coding.{Coding}

-- AV1 5.5.1: the largest frame, two widths in bits and two sizes in so many bits
unfoldable pub frame_size : List ℕ → ℕ → Reading FrameSize
frame_size s p =
    and_then (read_bits s p 4) (λ width_bits p.
    and_then (read_bits s p 4) (λ height_bits p.
    and_then (read_bits s p (width_bits + 1)) (λ width p.
    and_then (read_bits s p (height_bits + 1)) (λ height p.
    reads (record {
      frame_width_bits_minus_1 = width_bits;
      frame_height_bits_minus_1 = height_bits;
      max_frame_width_minus_1 = width;
      max_frame_height_minus_1 = height;
    }) p))))

-- AV1 5.5.1: the widths of frame ids
unfoldable pub frame_ids : List ℕ → ℕ → Bool → Reading FrameIds
frame_ids s p full =
    and_then (flag_or s p full false) (λ present p.
    and_then (read_or s p present 4 0) (λ delta p.
    and_then (read_or s p present 3 0) (λ additional p.
    reads (record {
      frame_id_numbers_present = present;
      delta_frame_id_length_minus_2 = delta;
      additional_frame_id_length_minus_1 = additional;
    }) p)))

-- AV1 5.5.1: use_128x128_superblock to enable_ref_frame_mvs
unfoldable pub coding_tools : List ℕ → ℕ → Bool → Reading Tools
coding_tools s p full =
    and_then (read_flag s p) (λ superblock p.
    and_then (read_flag s p) (λ filter p.
    and_then (read_flag s p) (λ edge p.
    and_then (flag_or s p full false) (λ interintra p.
    and_then (flag_or s p full false) (λ masked p.
    and_then (flag_or s p full false) (λ warped p.
    and_then (flag_or s p full false) (λ dual p.
    and_then (flag_or s p full false) (λ hint p.
    and_then (flag_or s p hint false) (λ jnt p.
    and_then (flag_or s p hint false) (λ mvs p.
    reads (record {
      use_128x128_superblock = superblock;
      enable_filter_intra = filter;
      enable_intra_edge_filter = edge;
      enable_interintra_compound = interintra;
      enable_masked_compound = masked;
      enable_warped_motion = warped;
      enable_dual_filter = dual;
      enable_order_hint = hint;
      enable_jnt_comp = jnt;
      enable_ref_frame_mvs = mvs;
    }) p))))))))))

-- AV1 3: SELECT_SCREEN_CONTENT_TOOLS and SELECT_INTEGER_MV: each frame says
abbrev pub select : ℕ
select = 2

-- AV1 5.5.1: screen content tools, integer motion vectors, and the order hint's width where there is one
unfoldable pub screen_tools : List ℕ → ℕ → Bool → Bool → Reading ScreenTools
screen_tools s p full hint =
    and_then (flag_or s p full false) (λ choose p.
    and_then (read_or s p (full && not choose) 1 select) (λ tools p.
    and_then (flag_or s p (full && ltb 0 tools) false) (λ choose_mv p.
    and_then (read_or s p (full && ltb 0 tools && not choose_mv) 1 select) (λ mv p.
    and_then (read_or s p hint 3 0) (λ bits p.
    reads (record {
      seq_choose_screen_content_tools = choose;
      seq_force_screen_content_tools = tools;
      seq_choose_integer_mv = choose_mv;
      seq_force_integer_mv = mv;
      order_hint_bits_minus_1 = bits;
    }) p)))))

-- AV1 5.5.1: enable_superres to enable_restoration
unfoldable pub filters : List ℕ → ℕ → Reading Filters
filters s p =
    and_then (read_flag s p) (λ superres p.
    and_then (read_flag s p) (λ cdef p.
    and_then (read_flag s p) (λ restoration p.
    reads (record { enable_superres = superres; enable_cdef = cdef; enable_restoration = restoration }) p)))

-- AV1 5.5.2 color_config up to the matrix coefficients, each of which is 2 (unspecified) without a description
unfoldable pub color_description : List ℕ → ℕ → ℕ → Reading ColorDescription
color_description s p profile =
    and_then (read_flag s p) (λ high p.
    and_then (flag_or s p (eqb profile 2 && high) false) (λ twelve p.
    and_then (flag_or s p (not (eqb profile 1)) false) (λ mono p.
    and_then (read_flag s p) (λ present p.
    and_then (read_or s p present 8 2) (λ primaries p.
    and_then (read_or s p present 8 2) (λ transfer p.
    and_then (read_or s p present 8 2) (λ matrix p.
    reads (record {
      high_bitdepth = high;
      twelve_bit = twelve;
      mono_chrome = mono;
      color_description_present = present;
      color_primaries = primaries;
      transfer_characteristics = transfer;
      matrix_coefficients = matrix;
    }) p)))))))

-- CP_BT_709, TC_SRGB and MC_IDENTITY
abbrev pub srgb : ColorDescription → Bool
srgb c = eqb c.color_primaries 1 && eqb c.transfer_characteristics 13 && eqb c.matrix_coefficients 0

-- color_range is in the bits
abbrev pub range_coded : ColorDescription → Bool
range_coded c = c.mono_chrome || not (srgb c)

-- subsampling goes by the profile
abbrev pub sampled : ColorDescription → Bool
sampled c = not c.mono_chrome && not (srgb c)

-- subsampling is in the bits: profile 2 with 12 bits
abbrev pub sampling_coded : ℕ → ColorDescription → Bool
sampling_coded profile c = sampled c && eqb profile 2 && c.twelve_bit

-- subsampling that is not in the bits: 4:2:0 for profile 0, 4:4:4 for profile 1, 4:2:2 for profile 2
abbrev pub subsample_x : Rules → ℕ → ColorDescription → Bool
subsample_x r profile c = (r.mono_subsampling && c.mono_chrome) || (sampled c && not (eqb profile 1))

abbrev pub subsample_y : Rules → ℕ → ColorDescription → Bool
subsample_y r profile c = (r.mono_subsampling && c.mono_chrome) || (sampled c && eqb profile 0)

-- AV1 5.5.2 color_config from color_range on; r says where the Rust departs for monochrome, and 01 follows it
unfoldable pub color_sampling : Rules → List ℕ → ℕ → ℕ → ColorDescription → Reading ColorSampling
color_sampling r s p profile c =
    and_then (flag_or s p (range_coded c) true) (λ range p.
    and_then (flag_or s p (sampling_coded profile c) (subsample_x r profile c)) (λ x p.
    and_then (flag_or s p (sampling_coded profile c && x) (subsample_y r profile c)) (λ y p.
    and_then (read_or s p (sampled c && x && y) 2 0) (λ position p.
    and_then (flag_or s p (r.mono_delta || not c.mono_chrome) false) (λ separate p.
    reads (record {
      color_range = range;
      subsample_x = x;
      subsample_y = y;
      chroma_sample_position = position;
      separate_uv_delta_q = separate;
    }) p)))))

-- AV1 5.5.1 behind the operating points
unfoldable pub coding : Rules → List ℕ → ℕ → ℕ → Bool → Reading Coding
coding r s p profile full =
    and_then (frame_size s p) (λ size p.
    and_then (frame_ids s p full) (λ ids p.
    and_then (coding_tools s p full) (λ tools p.
    and_then (screen_tools s p full tools.enable_order_hint) (λ screen p.
    and_then (filters s p) (λ filters p.
    and_then (color_description s p profile) (λ color p.
    and_then (color_sampling r s p profile color) (λ sampling p.
    and_then (read_flag s p) (λ grain p.
    reads (record {
      size = size;
      ids = ids;
      tools = tools;
      screen = screen;
      filters = filters;
      color = color;
      sampling = sampling;
      film_grain_params_present = grain;
    }) p))))))))

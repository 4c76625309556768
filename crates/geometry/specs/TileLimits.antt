-- AV1 5.9.9 compute_image_size, and 5.9.15 tile_info up to its first bit.
use Rattle.std.specs.Prelude.{ℕ, zero, suc, ◌+◌, ◌*◌, ◌/◌, ◌^◌, min, max, Bool, cond as pick, ltb}
use Rattle.geometry.specs.declared.size.Size.{Size}
use Rattle.geometry.specs.declared.tile_limits.TileLimits.{TileLimits}

-- AV1 5.9.9: MiCols or MiRows, of a width or a height
abbrev pub mi_units : ℕ → ℕ
mi_units n = 2 * ((n + 7) / 8)

-- AV1 5.9.15: sb_cols or sb_rows
abbrev pub superblocks : ℕ → Bool → ℕ
superblocks n use128x128 = pick use128x128 ((mi_units n + 31) / 32) ((mi_units n + 15) / 16)

-- AV1 5.9.16: the doublings that take blk to the target, at most n
unfoldable pub doublings : ℕ → ℕ → ℕ → ℕ
doublings zero blk target = 0
doublings (suc n) blk target = pick (ltb blk target) (suc (doublings n (2 * blk) target)) 0

-- AV1 5.9.16 tile_log2: the least k with blk * 2 ^ k ≥ target; for a blk from 1 on, target doublings are enough
abbrev pub tile_log2 : ℕ → ℕ → ℕ
tile_log2 blk target = doublings target blk target

-- AV1 5.9.15, of sb_cols, sb_rows and sb_size: MAX_TILE_WIDTH is 4096, MAX_TILE_AREA 4096 * 2304, MAX_TILE_COLS and MAX_TILE_ROWS 64
unfoldable pub limits_for : ℕ → ℕ → ℕ → TileLimits
limits_for sb_cols sb_rows sb_size =
    let min_cols = tile_log2 (4096 / 2 ^ sb_size) sb_cols in
    let min_tiles = max min_cols (tile_log2 (4096 * 2304 / 2 ^ (2 * sb_size)) (sb_rows * sb_cols)) in
    record {
      sb_cols = sb_cols;
      sb_rows = sb_rows;
      max_tile_width_sb = 4096 / 2 ^ sb_size;
      max_tile_area = pick (ltb 0 min_tiles) (sb_rows * sb_cols / 2 ^ (min_tiles + 1)) (sb_rows * sb_cols);
      min_log2_tile_cols = min_cols;
      max_log2_tile_cols = tile_log2 1 (min sb_cols 64);
      max_log2_tile_rows = tile_log2 1 (min sb_rows 64);
      min_log2_tiles = min_tiles;
    }

-- AV1 5.9.15, of a frame's size
unfoldable pub tile_limits : Size → Bool → TileLimits
tile_limits z use128x128 =
    limits_for (superblocks z.frame_width use128x128) (superblocks z.frame_height use128x128) (pick use128x128 7 6)

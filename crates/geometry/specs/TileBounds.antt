-- Bounds on what tile_info goes by.
use Rattle.std.specs.Prelude.{◌≤◌, ◌^◌}
use Rattle.geometry.specs.declared.tile_limits.TileLimits.{TileLimits}

-- of a frame whose sizes have 32 bits
pub record LimitsFit (l : TileLimits) : Type 0 where
  pub sb-cols : l.sb_cols ≤ 2 ^ 26
  pub sb-rows : l.sb_rows ≤ 2 ^ 26
  pub max-tile-width-sb : 1 ≤ l.max_tile_width_sb
  pub min-log2-tile-cols : l.min_log2_tile_cols ≤ 52
  pub max-log2-tile-cols : l.max_log2_tile_cols ≤ 52
  pub max-log2-tile-rows : l.max_log2_tile_rows ≤ 52
  pub min-log2-tiles : l.min_log2_tiles ≤ 52

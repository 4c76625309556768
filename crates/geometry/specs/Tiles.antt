-- AV1 5.9.15 tile_info, of which nothing is kept.
use Rattle.std.specs.Prelude.{ℕ, ◌+◌, ◌-◌, ◌/◌, min, max, Bool, true, ◌||◌, eqb, ltb}
use Rattle.syntax.specs.Syntax.{Syntax, done, field, refuse, branch, sub, read_over}
use Rattle.syntax.specs.Repeat.{repeat, whilst}
use Rattle.syntax.specs.Near.{ns}
use Rattle.geometry.specs.TileLimits.{tile_log2, tile_limits}
use Rattle.geometry.specs.declared.size.Size.{Size}
use Rattle.geometry.specs.declared.tile_limits.TileLimits.{TileLimits}
use Rattle.geometry.specs.declared.tiles.Tiles.{Tiles}
use Rattle.geometry.specs.declared.tiles.TileLogs.{TileLogs}

-- AV1 5.9.15: startSb, widestTileSb and the number of columns or rows
abbrev pub tiles_of : ℕ → ℕ → ℕ → Tiles
tiles_of start widest count = record { start_sb = start; widest_sb = widest; count = count }

-- AV1 5.9.15: TileColsLog2 and TileRowsLog2
abbrev pub logs_of : ℕ → ℕ → TileLogs
logs_of cols rows = record { cols_log2 = cols; rows_log2 = rows }

-- AV1 5.9.15 increment_tile_cols_log2 or increment_tile_rows_log2: where each before it was 1
unfoldable pub increment : ℕ → ℕ → ℕ → Syntax ℕ
increment least i log2 =
    field (eqb log2 (least + i)) 1 (λ b.
    done (log2 + b))

-- AV1 5.9.15: TileColsLog2 or TileRowsLog2, from the least on
unfoldable pub increments : ℕ → ℕ → Syntax ℕ
increments least most = repeat (increment least) 0 (most - least) least

-- AV1 5.9.15 width_in_sbs_minus_1 or height_in_sbs_minus_1
unfoldable pub tile_size : ℕ → ℕ → Tiles → Syntax Tiles
tile_size sbs most t =
    sub (ns (min (sbs - t.start_sb) most)) (λ v.
    done (tiles_of (t.start_sb + (v + 1)) (max t.widest_sb (v + 1)) (t.count + 1)))

-- AV1 5.9.15: superblocks are left
abbrev pub within : ℕ → Tiles → Bool
within sbs t = ltb t.start_sb sbs

-- AV1 5.9.15: the columns or rows of so many superblocks, each of one or more
unfoldable pub tile_sizes : ℕ → ℕ → Syntax Tiles
tile_sizes sbs most = whilst (within sbs) (tile_size sbs most) sbs (tiles_of 0 0 0)

-- AV1 5.9.15, uniform_tile_spacing_flag 1
unfoldable pub uniform_tiles : TileLimits → Syntax TileLogs
uniform_tiles l =
    sub (increments l.min_log2_tile_cols l.max_log2_tile_cols) (λ cols.
    sub (increments (l.min_log2_tiles - cols) l.max_log2_tile_rows) (λ rows.
    done (logs_of cols rows)))

-- AV1 5.9.15, uniform_tile_spacing_flag 0; 14: a frame of no width
unfoldable pub explicit_tiles : TileLimits → Syntax TileLogs
explicit_tiles l =
    sub (tile_sizes l.sb_cols l.max_tile_width_sb) (λ cols.
    refuse (eqb cols.widest_sb 0) 14 (
    sub (tile_sizes l.sb_rows (max (l.max_tile_area / cols.widest_sb) 1)) (λ rows.
    done (logs_of (tile_log2 1 cols.count) (tile_log2 1 rows.count)))))

-- AV1 5.9.15, as uniform_tile_spacing_flag says
unfoldable pub tile_logs : Bool → TileLimits → Syntax TileLogs
tile_logs uniform l = branch uniform (uniform_tiles l) (explicit_tiles l) (λ x. done x)

-- AV1 5.9.15: there is more than one tile
abbrev pub several : TileLogs → Bool
several x = ltb 0 x.cols_log2 || ltb 0 x.rows_log2

-- AV1 5.9.15 tile_info; id: context_update_tile_id; bytes: tile_size_bytes_minus_1
unfoldable pub tile_info : Size → Bool → Syntax (Unit {0})
tile_info z use128x128 =
    field true 1 (λ uniform.
    sub (tile_logs (eqb uniform 1) (tile_limits z use128x128)) (λ x.
    field (several x) (x.cols_log2 + x.rows_log2) (λ id.
    field (several x) 2 (λ bytes.
    read_over))))

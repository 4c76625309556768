use Rattle.std.proofs.Common.{◌≤◌, ◌-◌}
use Rattle.syntax.proofs.RepeatLaws.{Still}
use Rattle.geometry.specs.Tiles.{within, tiles_of, tile_size}
use Rattle.geometry.proofs.tiles.tile_sizes.Given as goal

abbrev pub invariant-loop-t : goal.invariant-loop-t
invariant-loop-t l = record {
  few : l.t.count ≤ l.t.start_sb;
  fits : l.t.count ≤ l.sbs;
  left : Still (within l.sbs) (tile_size l.sbs l.most) l.s l.sbs (tiles_of 0 0 0) l.initial.reader.pos (l.sbs - l.t.count) l.t l.reader.pos;
}

abbrev pub decreases-loop-t : goal.decreases-loop-t
decreases-loop-t l = l.sbs - l.t.start_sb

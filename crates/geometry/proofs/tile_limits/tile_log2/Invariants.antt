use Rattle.std.proofs.Common.{◌≡◌, ◌+◌, ◌-◌, ◌<◌}
use Rattle.geometry.specs.TileLimits.{doublings, tile_log2}
use Rattle.geometry.proofs.tile_limits.tile_log2.Given as goal

abbrev pub invariant-loop-size : goal.invariant-loop-size
invariant-loop-size l = record { few : l.k < l.size; left : l.k + doublings (l.target - l.k) l.size l.target ≡ tile_log2 l.blk l.target }

abbrev pub decreases-loop-size : goal.decreases-loop-size
decreases-loop-size l = l.target - l.size

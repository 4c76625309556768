use Rattle.std.proofs.Common.{◌≡◌, ◌-◌}
use Rattle.bitio.specs.Bits.{reads, and_then}
use Rattle.header.specs.SequencePoints.{operating_points, point_count, padded}
use Rattle.header.proofs.PointLaws.{filled}
use Rattle.header.proofs.seq_header.read_points.read_points.Given as goal

-- reading the rest into the array gives what is to be read
abbrev pub invariant-loop-i : goal.invariant-loop-i
invariant-loop-i l =
    let o = l.bounded.opening in
    let count = point_count o in
    filled l.points l.i (operating_points (count - l.i) l.s l.r.pos o) ≡ and_then (operating_points count l.s l.fn.r.pos o) (λ xs p. reads (padded xs) p)

use Rattle.replay_headers.proofs.FieldNumberLaws.{points_none, points-more}
use Rattle.replay_headers.proofs.sequence_fields.put_points.Goals as goal

pub loop-point-init : goal.loop-point-init
loop-point-init c = points_none _ c.args.points.now

pub loop-point-preserved : goal.loop-point-preserved
loop-point-preserved c =
    let l = c.loop-point in
    let point = rw c.point_fields.ensures at c.put_list.ensures in
    points-more _ _ _ l.point-index c.loop-point-test.true l.invariant point

use Rattle.std.proofs.Common.{◌∙◌, arith}
use Rattle.blocks.specs.Numbers.{segment_count}
use Rattle.replay_lists.proofs.SegmentFieldLaws.{record_next, records_end}
use Rattle.replay_lists.proofs.assemble_ops.put_segments.Goals as goal

pub loop-i-preserved : goal.loop-i-preserved
loop-i-preserved c =
    let l = c.loop-i in
    let n = c.segment_count-i-end.ensures in
    let e = rw (c.start_of.ensures, c.end_of-middle.ensures, c.end_of.ensures, c.number_at.ensures) at c.put_record.ensures in
    rw e (record_next c.args.ends.now c.args.numbers.now (segment_count c.args.segments.now) l.i l.segments (omega arith) (omega arith) ∙ l.invariant)

pub returns : goal.returns
returns c =
    let l = c.loop-i in
    let n = c.segment_count-i-end.ensures in
    records_end _ _ (segment_count c.args.segments.now) l.i l.segments (omega arith) ∙ l.invariant

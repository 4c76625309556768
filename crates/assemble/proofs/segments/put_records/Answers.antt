use Rattle.std.proofs.Common.{◌∙◌, ◌*◌, length, ap, arith}
use Rattle.bitio.proofs.LentLaws.{pasted_length}
use Rattle.blocks.specs.Numbers.{width}
use Rattle.assemble.proofs.RecordLaws.{record-next, records-end}
use Rattle.assemble.proofs.segments.put_records.Goals as goal

pub loop-i-preserved : goal.loop-i-preserved
loop-i-preserved c =
    let l = c.loop-i in
    let h = c.requires in
    let k = l.invariant.len in
    let e = c.put_record.ensures in
    record {
      left = rw e (record-next c.args.segments.now l.numbers l.i (omega arith) (omega (arith, h, k)) ∙ l.invariant.left);
      len = ap length e ∙ pasted_length l.numbers (width * l.i) _ (omega (arith, h, k)) ∙ k;
    }

pub returns : goal.returns
returns c = let l = c.loop-i in records-end c.args.segments.now l.numbers l.i (omega arith) ∙ l.invariant.left

use Rattle.std.proofs.Common.{rules}
use Rattle.header.specs.Sequence.{sequence_of}
use Rattle.emit.proofs.PayloadLaws.{widths, sections, payload-front, payload-size, zeros_bytes}
use Rattle.emit.proofs.seq_header.emit.write_payload.Goals as goal

pub put_opening-requires : goal.put_opening-requires
put_opening-requires c = (widths _ c.requires).ticks

pub invariant_of-put_points : goal.invariant_of-put_points
invariant_of-put_points c = let w = widths _ c.requires in record { delay = w.delay; count = w.count }

pub put_coding-requires : goal.put_coding-requires
put_coding-requires c = let w = widths _ c.requires in (w.wide, w.high)

pub returns : goal.returns
returns c =
    let a = c.args.sequence.now in
    let q = sequence_of a.header a.operating_points in
    let s = sections q c.put_opening.ensures (rw c.points.ensures.points at c.put_points.ensures) c.put_coding.ensures in
    record {
      size = payload-size q c.requires (search rules) s c.put_trailing_bits.ensures (zeros_bytes 400);
      front = payload-front q c.requires (search rules) s c.put_trailing_bits.ensures (zeros_bytes 400);
    }

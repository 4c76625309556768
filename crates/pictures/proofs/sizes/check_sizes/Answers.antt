use Rattle.std.proofs.Common.{arith}
use Rattle.pictures.proofs.SizeLaws.{refused-21, refused-22, refused-23, refused-24, refused-25, sized-fit}
use Rattle.pictures.proofs.sizes.check_sizes.Goals as goal

pub returns-then-segment_count-eq0 : goal.returns-then-segment_count-eq0
returns-then-segment_count-eq0 c = let e = c.overall.ensures in rw e (refused-21 c.args.gop c.args.segments.now (omega arith))

pub returns-then-gop-lt2 : goal.returns-then-gop-lt2
returns-then-gop-lt2 c = rw c.overall-then-gop-lt2.ensures (refused-22 c.args.gop c.args.segments.now (λ e. absurd (omega arith)) c.if-gop-lt2.true)

pub returns-then-total-lt2 : goal.returns-then-total-lt2
returns-then-total-lt2 c = rw c.overall-then-total-lt2.ensures (refused-23 c.args.gop c.args.segments.now (λ e. absurd (omega arith)) c.if-gop-lt2.false _ c.total_frames-total.ensures c.if-total-lt2.true)

pub returns-in-Some : goal.returns-in-Some
returns-in-Some c =
    rw c.in_segment.ensures (refused-24 c.args.gop c.args.segments.now (λ e. absurd (omega arith)) c.if-gop-lt2.false _ c.total_frames-total.ensures c.if-total-lt2.false c.first_empty.result c.first_empty.ensures _ c.in-Some.is)

pub returns-then-total-gt5000000 : goal.returns-then-total-gt5000000
returns-then-total-gt5000000 c =
    rw c.overall-then-total-gt5000000.ensures (refused-25 c.args.gop c.args.segments.now (λ e. absurd (omega arith)) c.if-gop-lt2.false _ c.total_frames-total.ensures c.if-total-lt2.false c.first_empty.result c.first_empty.ensures c.in_default.is c.if-total-gt5000000.true)

pub returns : goal.returns
returns c = sized-fit c.args.gop c.args.segments.now (λ e. absurd (omega arith)) c.if-gop-lt2.false _ c.total_frames-total.ensures c.if-total-lt2.false c.first_empty.result c.first_empty.ensures c.in_default.is c.if-total-gt5000000.false

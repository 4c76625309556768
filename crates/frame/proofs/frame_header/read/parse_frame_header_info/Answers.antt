use Rattle.std.proofs.Common.{sym, ap, ◌∙◌, rules}
use Rattle.bitio.specs.Limits.{limited}
use Rattle.bitio.specs.Parse.{refused}
use Rattle.bitio.proofs.LimitLaws.{limit_kept, limit_passed}
use Rattle.frame.specs.Frame.{parse_frame, parse_frame_from}
use Rattle.header.proofs.LimitedLaws.{over-limit, within-limit}
use Rattle.frame.proofs.FrameFromLaws.{beside-read, beside-refused}
use Rattle.frame.proofs.frame_header.read.parse_frame_header_info.Goals as goal

pub returns-in_err-check_limit : goal.returns-in_err-check_limit
returns-in_err-check_limit c =
    let (l, k) = limit_passed c.args.payload.now c.in_err-check_limit.ensures in
    let e = ap refused k ∙ sym (over-limit c.args.payload.now (limited c.args.sequence.now (parse_frame_from c.args.sequence.now c.args.payload.now)) l) in
    search (rules, e)

pub returns-in_err-sequence : goal.returns-in_err-sequence
unfolding parse_frame_from
returns-in_err-sequence c =
    let f = c.args.payload.now in
    let e = beside-refused c.args.sequence.now (λ q. parse_frame q f) _ c.in_err-sequence.ensures ∙ sym (within-limit f _ (limit_kept f c.in_ok-check_limit.ensures)) in
    search (rules, e)

pub returns : goal.returns
unfolding parse_frame_from
returns c =
    let f = c.args.payload.now in
    c.read_frame_header.ensures ∙ beside-read c.args.sequence.now (λ q. parse_frame q f) _ c.in_ok-sequence.ensures ∙ sym (within-limit f _ (limit_kept f c.in_ok-check_limit.ensures))

use Rattle.std.proofs.Common.{◌∙◌, rules}
use Rattle.header.specs.Sequence.{sequence_in}
use Rattle.frame.proofs.UnitFrameLaws.{frame_refused, frame-none, frame-many, frame-read}
use Rattle.frame.proofs.unit_frame.unit_frame.Goals as goal

pub returns-in_err-n : goal.returns-in_err-n
returns-in_err-n c =
    let e = frame_refused c.args.sole (sequence_in c.args.sequence.now) c.args.unit.now _ c.in_err-n.ensures in
    search (rules, e)

pub returns-then-n-eq0 : goal.returns-then-n-eq0
returns-then-n-eq0 c = frame-none _ _ _ _ c.in_ok-n.ensures c.if-n-eq0.true

pub returns-then-sole-n : goal.returns-then-sole-n
returns-then-sole-n c = frame-many _ _ _ _ c.in_ok-n.ensures c.if-n-eq0.false c.if-sole-n.true

pub returns : goal.returns
returns c = c.read_frame_header.ensures ∙ frame-read _ _ _ _ c.in_ok-n.ensures _ c.if-n-eq0.false c.if-sole-n.false c.first_payload.ensures

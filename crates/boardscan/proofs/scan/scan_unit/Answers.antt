use Rattle.std.proofs.Common.{sym, ◌∙◌, rules}
use Rattle.boardscan.proofs.ScanLaws.{scan-own, scan-led, scan-headless, unit-refused, counted_refused, counted_own, counted_none}
use Rattle.boardscan.proofs.scan.scan_unit.Goals as goal

pub returns-in_err-own : goal.returns-in_err-own
returns-in_err-own c =
    let a = c.args in
    let e = unit-refused a.lead.now a.slots a.unit.now _ (counted_refused _ _ _ c.in_err-own.ensures) in
    search (rules, e)

pub returns-then-own-ge1 : goal.returns-then-own-ge1
returns-then-own-ge1 c =
    c.scan_frames.ensures ∙ scan-own _ _ _ c.first_payload.ensures (counted_own _ _ c.in_ok-own.ensures c.if-own-ge1.true)

pub returns-then-has_header : goal.returns-then-has_header
returns-then-has_header c =
    c.scan_frames-then-has_header.ensures
    ∙ scan-led _ _ _ c.first_payload-then-has_header.ensures (counted_none _ _ c.in_ok-own.ensures c.if-own-ge1.false) (sym c.if-has_header.ensures)

pub returns : goal.returns
returns c =
    let a = c.args in
    scan-headless a.lead.now a.slots a.unit.now _ _ (counted_none _ _ c.in_ok-own.ensures c.if-own-ge1.false) (sym c.if-has_header.ensures) c.in_ok-own.ensures

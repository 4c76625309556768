use Rattle.std.proofs.Common.{ℕ, List, sym, ap, ◌∙◌, rules}
use Rattle.bitio.specs.Parse.{Answer, refused, and_next}
use Rattle.bitio.proofs.LimitLaws.{limit_kept, limit_passed}
use Rattle.header.specs.Sequence.{Sequence, parse_sequence}
use Rattle.bitio.specs.Limits.{limited}
use Rattle.header.proofs.LimitedLaws.{over-limit, within-limit, limited-read}
use Rattle.frame.proofs.FrameFromLaws.{beside-read, beside-refused, beside-whole}
use Rattle.frame.proofs.RemovalLaws.{removals-counted}
use Rattle.frame.specs.Frame.{modelled, removals}
use Rattle.geometry.specs.declared.slots.RefSlot.{RefSlot}
use Rattle.uheader.specs.Scan.{scan_header, scan_payloads, slots_after}
use Rattle.uheader.specs.declared.scan.HeaderScan.{HeaderScan}
use Rattle.uheader.proofs.WithinLaws.{read-within}
use Rattle.uheader.proofs.scan.scan_uncompressed_header.Goals as goal

-- a scan under each header, with the Rust's removal times
abbrev scans : List RefSlot → List ℕ → Sequence → Answer HeaderScan
scans slots f q = scan_header q.header (removals modelled q) slots f

pub returns-in_err-check_limit-clause-answer : goal.returns-in_err-check_limit-clause-answer
unfolding scan_payloads
returns-in_err-check_limit-clause-answer c =
    let (l, k) = limit_passed c.args.payload.now c.in_err-check_limit.ensures in
    let a = c.args in
    let e = ap refused k ∙ sym (over-limit a.payload.now (limited a.sequence.now (and_next (parse_sequence a.sequence.now) (scans a.slots.now a.payload.now))) l) in
    search (rules, e)

pub returns-in_err-check_limit-clause-slots : goal.returns-in_err-check_limit-clause-slots
unfolding scan_payloads
returns-in_err-check_limit-clause-slots c =
    let (l, k) = limit_passed c.args.payload.now c.in_err-check_limit.ensures in
    ap (slots_after c.args.slots.now) (sym (over-limit _ _ l))

pub returns-in_err-sequence-clause-answer : goal.returns-in_err-sequence-clause-answer
unfolding scan_payloads
returns-in_err-sequence-clause-answer c =
    let a = c.args in
    let e = beside-refused a.sequence.now (scans a.slots.now a.payload.now) _ c.in_err-sequence.ensures ∙ sym (within-limit _ _ (limit_kept c.args.payload.now c.in_ok-check_limit.ensures)) in
    search (rules, e)

pub returns-in_err-sequence-clause-slots : goal.returns-in_err-sequence-clause-slots
unfolding scan_payloads
returns-in_err-sequence-clause-slots c =
    let a = c.args in
    ap (slots_after a.slots.now)
    (beside-refused a.sequence.now (scans a.slots.now a.payload.now) _ c.in_err-sequence.ensures ∙ sym (within-limit _ _ (limit_kept c.args.payload.now c.in_ok-check_limit.ensures)))

pub invariant_of-scanner : goal.invariant_of-scanner
invariant_of-scanner c =
    let s = c.args.sequence.now in
    record { sized = read-within s _ (limited-read s _ (beside-whole s _ c.in_ok-sequence.ensures)) }

pub returns-clause-answer : goal.returns-clause-answer
unfolding scan_payloads
returns-clause-answer c =
    let a = c.args in
    rw (removals-counted c.in_ok-sequence.sequence c.removals.ensures c.points.ensures.points) at c.scan_header.ensures.answer
    ∙ beside-read a.sequence.now (scans a.slots.now a.payload.now) _ c.in_ok-sequence.ensures
    ∙ sym (within-limit _ _ (limit_kept c.args.payload.now c.in_ok-check_limit.ensures))

pub returns-clause-slots : goal.returns-clause-slots
unfolding scan_payloads
returns-clause-slots c =
    let a = c.args in
    rw (removals-counted c.in_ok-sequence.sequence c.removals.ensures c.points.ensures.points) at c.scan_header.ensures.slots
    ∙ ap (slots_after a.slots.now)
    (beside-read a.sequence.now (scans a.slots.now a.payload.now) _ c.in_ok-sequence.ensures
    ∙ sym (within-limit _ _ (limit_kept c.args.payload.now c.in_ok-check_limit.ensures)))

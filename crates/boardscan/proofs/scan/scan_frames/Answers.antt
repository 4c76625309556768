use Rattle.std.proofs.Common.{◌≡◌, ◌∷◌, [], ◌++◌, true, false, refl, sym, ap, ◌∙◌, arith, rules}
use Rattle.std.proofs.lemmas.Grind.{common_steps}
use Rattle.obu.specs.Unit.{is_type, is_frame}
use Rattle.obu.specs.declared.unit.Kind.TheVariants.{Frame}
use Rattle.obu.proofs.PlaceLaws.{part_placed}
use Rattle.obu.proofs.WalkLaws.{passed_none, passed_one, passed_all, passed_stop}
use Rattle.boardscan.specs.Scans.{scan_obus}
use Rattle.boardscan.proofs.ScanLaws.{turn-frame, turn-other, turn-refused, under-refused, under-whole, under-stopped}
use Rattle.boardscan.proofs.scan.scan_frames.Goals as goal

pub loop-found-init : goal.loop-found-init
unfolding scan_obus
loop-found-init c = ([], passed_none (rw c.into_iter-found-iterator.ensures.into_iter_gives c.new-found-items.ensures), refl)

pub returns-in_err-o : goal.returns-in_err-o
returns-in_err-o c =
    let a = c.args in
    let h = passed_stop c.loop-found.invariant.1 _ c.next.new.self (rw c.in_err-o.was at c.in-Some.ensures.steps) in
    let e = under-refused a.sequence.now a.slots a.unit.now _ h in
    search (rules, e)

pub returns-in_err-scan : goal.returns-in_err-scan
returns-in_err-scan c =
    let a = c.args in
    let (front, p, i) = c.loop-found.invariant in
    let (g, b, q) = passed_one p _ c.next.new.self (rw c.in_ok-o.was at c.in-Some.ensures.steps) in
    let t : is_frame g.obu ≡ true = ap (is_type Frame) g.type ∙ sym c.if-is_type.ensures in
    let r = rw (c.payload.ensures, part_placed g.placed) at c.in_err-scan.ensures in
    let e = under-stopped a.sequence.now a.slots a.unit.now _ _ _ c.requires q.walked (turn-refused a.sequence.now _ front g.obu i t r.answer) in
    search (rules, e)

pub loop-found-preserved-then-is_type : goal.loop-found-preserved-then-is_type
loop-found-preserved-then-is_type c =
    let (front, p, i) = c.loop-found.invariant in
    let (g, b, q) = passed_one p _ c.next.new.self (rw c.in_ok-o.was at c.in-Some.ensures.steps) in
    let t : is_frame g.obu ≡ true = ap (is_type Frame) g.type ∙ sym c.if-is_type.ensures in
    let r = rw (c.payload.ensures, part_placed g.placed) at c.in_ok-scan.ensures in
    (front ++ (g.obu ∷ []), q, rw c.or-first.ensures (turn-frame c.args.sequence.now _ front g.obu i t r.answer r.slots))

pub loop-found-preserved : goal.loop-found-preserved
loop-found-preserved c =
    let (front, p, i) = c.loop-found.invariant in
    let (g, b, q) = passed_one p _ c.next.new.self (rw c.in_ok-o.was at c.in-Some.ensures.steps) in
    let t : is_frame g.obu ≡ false = ap (is_type Frame) g.type ∙ sym c.if-is_type.ensures in
    (front ++ (g.obu ∷ []), q, turn-other c.args.sequence.now _ front g.obu i t)

pub returns-in_err-size : goal.returns-in_err-size
returns-in_err-size c =
    let a = c.args in
    let i = c.loop-found.invariant in
    let e = under-whole a.sequence.now a.slots a.unit.now _ i.0 (passed_all i.1 c.next.new.self c.in-None.ensures.steps) i.2 in
    grind (arith, common_steps, e)

pub returns : goal.returns
returns c =
    let a = c.args in
    let i = c.loop-found.invariant in
    let e = under-whole a.sequence.now a.slots a.unit.now _ i.0 (passed_all i.1 c.next.new.self c.in-None.ensures.steps) i.2 in
    grind (arith, common_steps, e)

use Rattle.std.proofs.Common.{arith, refl, sym, ap, rules, ◌∙◌, ◌≡◌, ◌∷◌, [], ◌++◌, true, false, add-one, suc}
use Rattle.bitio.specs.Parse.{accepted, answer}
use Rattle.obu.specs.Unit.{count, is_kind, is_type}
use Rattle.obu.proofs.UnitLaws.{count_next}
use Rattle.obu.proofs.WalkLaws.{passed_none, passed_one, passed_all, passed_stop}
use Rattle.obu.proofs.unit.count_obus.Goals as goal

pub loop-found-init : goal.loop-found-init
unfolding count
loop-found-init c = ([], passed_none (rw c.into_iter-found-iterator.ensures.into_iter_gives c.new-found-items.ensures), omega arith, refl)

pub returns-in_err-found : goal.returns-in_err-found
returns-in_err-found c =
    let i = c.loop-found.invariant in
    let e = ap (answer (count (is_kind c.args.k))) (passed_stop i.1 _ c.next.new.self (rw c.in_err-found.was at c.in-Some.ensures.steps)) in
    search (rules, e)

pub loop-found-preserved-then-is_type : goal.loop-found-preserved-then-is_type
loop-found-preserved-then-is_type c =
    let (front, p, m, n) = c.loop-found.invariant in
    let (g, b, q) = passed_one p _ c.next.new.self (rw c.in_ok-found.was at c.in-Some.ensures.steps) in
    let t : is_kind c.args.k g.obu ≡ true = ap (is_type c.args.k) g.type ∙ sym c.if-is_type.ensures in
    (front ++ (g.obu ∷ []), q, omega (arith, b, g.placed.after, g.placed.ends), add-one _ ∙ ap suc n ∙ sym (count_next _ front g.obu ∙ rw t))

pub loop-found-preserved : goal.loop-found-preserved
loop-found-preserved c =
    let (front, p, m, n) = c.loop-found.invariant in
    let (g, b, q) = passed_one p _ c.next.new.self (rw c.in_ok-found.was at c.in-Some.ensures.steps) in
    let t : is_kind c.args.k g.obu ≡ false = ap (is_type c.args.k) g.type ∙ sym c.if-is_type.ensures in
    (front ++ (g.obu ∷ []), q, omega (arith, b, g.placed.after, g.placed.ends), n ∙ sym (count_next _ front g.obu ∙ rw t))

pub returns : goal.returns
returns c =
    let i = c.loop-found.invariant in
    rw (passed_all i.1 c.next.new.self c.in-None.ensures.steps) (ap accepted i.3)

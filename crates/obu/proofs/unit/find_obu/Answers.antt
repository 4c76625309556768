use Rattle.std.proofs.Common.{cond, refl, sym, ap, rules, ◌∙◌, ◌≡◌, ◌∷◌, [], ◌++◌, Bool, true, false, ◌||◌, ◌&&◌}
use mathlib.Core.Option.{some}
use mathlib.Core.Path.{subst}
use Rattle.bitio.specs.Parse.{accepted}
use Rattle.obu.specs.Obu.{Obu}
use Rattle.std.specs.Prelude.{Ok, Err, not, is_some, is_none, Option as Optional, Some, None}
use Rattle.obu.specs.declared.reader.Obu.{Obu as Found}
use Rattle.obu.specs.Unit.{Located, is_kind, is_type, sought, sought_says}
use Rattle.obu.proofs.PlaceLaws.{is-end, placed-obu}
use Rattle.obu.proofs.WalkLaws.{over-start, over-next, given-here, turn}
use Rattle.obu.proofs.UnitLaws.{Searched, search-start, search-next, search-end, search-stop, sought_kept}
use Rattle.obu.specs.Walk.{Walks, GivesObu}
use Rattle.std.proofs.Common.{length}
use Rattle.obu.proofs.unit.find_obu.Goals as goal

none_is : (x : Optional Found) (b : Bool) → is_some x ≡ not b → b ≡ is_none x
none_is None true e = refl
none_is None false e = e
none_is (Some o) true e = cc
none_is (Some o) false e = refl

-- the test by the definitions
tested : (last : Bool) {is p none n t : Bool} → is ≡ p → none ≡ n → (last || none) && is ≡ t → (last || n) && p ≡ t
tested last e f t = rw (← e, ← f) t

pub loop-found-init : goal.loop-found-init
unfolding sought
loop-found-init c =
    let w : Walks c.into_iter-found-iterator.result c.args.s.now 0 (length c.args.s.now) = rw c.into_iter-found-iterator.ensures.into_iter_gives c.new-found-items.ensures in
    ([], over-start w, subst (λ n. Searched c.args.s.now n []) (sym w.1) (search-start c.args.s.now), refl)

pub returns-in_err-o : goal.returns-in_err-o
returns-in_err-o c =
    let i = c.loop-found.invariant in
    let e = search-stop i.2 (sought c.args.last (λ o. is_kind c.args.k o.obu)) (given-here i.1 (Some (Err _)) c.next.new.self (rw c.in_err-o.was at c.in-Some.ensures.steps)) in
    search (rules, e)

-- what is kept behind one OBU more, where the test says t
pub loop-found-preserved-then-last-is_none : goal.loop-found-preserved-then-last-is_none
loop-found-preserved-then-last-is_none c =
    let i = c.loop-found.invariant in
    let a = c.args in
    let o = c.in_ok-o.o in
    let s : GivesObu c.loop-found.found-iterator (Some (Ok o)) c.next.new.self = rw c.in_ok-o.was at c.in-Some.ensures.steps in
    let g = turn o c.next.new.self i.1 s in
    let x : Located = record { obu = g.obu; start = o.start; end = o.end } in
    let is = c.is_type.ensures ∙ ap (is_type a.k) (sym g.type) in
    let k = sought_kept a.s.now a.last (λ o. is_kind a.k o.obu) i.0 x c.loop-found.kept i.3 in
    let kept = k ∙ ap (λ b. cond b (accepted (some x)) (sought_says a.s.now (Ok c.loop-found.kept))) (tested a.last is (none_is c.loop-found.kept _ c.is_none.ensures) c.if-last-is_none.true) in (
      i.0 ++ (x ∷ []),
      over-next i.1 (Some (Ok o)) c.next.new.self s,
      subst (λ n. Searched a.s.now n (i.0 ++ (x ∷ []))) (sym s.1.1) (search-next i.2 g.placed),
      ap (λ (y : Obu). accepted (some (record { obu = y; start = o.start; end = o.end }))) (placed-obu g) ∙ sym kept,
    )

pub loop-found-preserved : goal.loop-found-preserved
loop-found-preserved c =
    let i = c.loop-found.invariant in
    let a = c.args in
    let o = c.in_ok-o.o in
    let s : GivesObu c.loop-found.found-iterator (Some (Ok o)) c.next.new.self = rw c.in_ok-o.was at c.in-Some.ensures.steps in
    let g = turn o c.next.new.self i.1 s in
    let x : Located = record { obu = g.obu; start = o.start; end = o.end } in
    let is = c.is_type.ensures ∙ ap (is_type a.k) (sym g.type) in
    let k = sought_kept a.s.now a.last (λ o. is_kind a.k o.obu) i.0 x c.loop-found.kept i.3 in
    let kept = k ∙ ap (λ b. cond b (accepted (some x)) (sought_says a.s.now (Ok c.loop-found.kept))) (tested a.last is (none_is c.loop-found.kept _ c.is_none.ensures) c.if-last-is_none.false) in
    (i.0 ++ (x ∷ []), over-next i.1 (Some (Ok o)) c.next.new.self s, subst (λ n. Searched a.s.now n (i.0 ++ (x ∷ []))) (sym s.1.1) (search-next i.2 g.placed), sym kept)

pub returns : goal.returns
returns c =
    let i = c.loop-found.invariant in
    rw (search-end i.2 (is-end _ _ (given-here i.1 None c.next.new.self c.in-None.ensures.steps))) i.3

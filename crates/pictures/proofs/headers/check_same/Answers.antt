use Rattle.std.proofs.Common.{rules, ap, sym, cond, Bool, ◌∙◌}
use lib.Dec.{eqb}
use lib.Pointwise.{pointwise}
use borrow.Author.Tests.{not-true, not-false}
use Rattle.bitio.specs.Parse.{refused, accepted}
use Rattle.obu.specs.Obu.{obus}
use Rattle.pictures.proofs.SameLaws.{last-refused, last-missing, last-there, same-is}
use Rattle.pictures.proofs.headers.check_same.Goals as goal
use Rattle.pictures.proofs.headers.check_same.Goals.{then-n-eq0-via-then-n-eq0, then-n-eq0-via-else-n-eq0+then-ne}

pub returns-in_err-n : goal.returns-in_err-n
returns-in_err-n c = let e = last-refused c.args.first.now (obus c.args.unit.now) _ c.in_err-n.ensures in search (rules, e)

pub returns-then-n-eq0 : goal.returns-then-n-eq0
returns-then-n-eq0 c =
    let s = c.args.first.now in
    let x = obus c.args.unit.now in
    elim c.then-n-eq0.branch [
      | then-n-eq0-via-then-n-eq0 w ↦ last-missing s x _ c.in_ok-n.ensures w.if-n-eq0.true
      | then-n-eq0-via-else-n-eq0+then-ne w ↦
          let b = pointwise eqb w.last_payload.result.now s in
          ap (λ (y : Bool). cond y (accepted tt) (refused 27)) (sym (not-true b (sym w.ne.ensures ∙ w.if-ne.true)))
          ∙ last-there s x _ c.in_ok-n.ensures w.if-n-eq0.false b _ (same-is _ _) w.last_payload.ensures
    ]

pub returns : goal.returns
returns c =
    let b = pointwise eqb c.last_payload.result.now c.args.first.now in
    ap (λ (y : Bool). cond y (accepted tt) (refused 27)) (sym (not-false b (sym c.ne.ensures ∙ c.if-ne.false)))
    ∙ last-there c.args.first.now (obus c.args.unit.now) _ c.in_ok-n.ensures c.if-n-eq0.false b _ (same-is _ _) c.last_payload.ensures

use Rattle.bitio.specs.Refusal.{says}
use Rattle.std.proofs.Common.{arith, rules, ap, sym, ◌∙◌, List, ℕ, length, ◌≡◌}
use Rattle.bitio.specs.Limits.{capped}
use Rattle.pictures.specs.Flat.{answer_or, lent}
use Rattle.pictures.proofs.SentLaws.{sent-plain, sent-refused, sent-copied, sent-rewritten}
use Rattle.pictures.proofs.RewriteLaws.{size-or}
use Rattle.pictures.proofs.rewrite.sent_len.Goals as goal

pub returns-in_default : goal.returns-in_default
returns-in_default c =
    let a = c.args in
    omega (arith, ap length (sent-plain a.unit.now (ap lent c.in_default.is)))

pub returns-in-Err : goal.returns-in-Err
returns-in-Err c =
    let a = c.args in
    ap (λ (l : List ℕ). capped (length l)) (sym (sent-refused c.in-Some.new.now a.unit.now (ap lent c.in-Some.is) _ (sym c.in-Err.ensures)))

pub returns-in-Ok-eq0 : goal.returns-in-Ok-eq0
returns-in-Ok-eq0 c =
    let a = c.args in
    omega (arith, ap length (sent-copied c.in-Some.new.now a.unit.now (ap lent c.in-Some.is) _ c.in-Ok-eq0.field-0-test (sym c.in-Ok-eq0.ensures)))

pub returns-in-Ok : goal.returns-in-Ok
returns-in-Ok c =
    let a = c.args in
    let e = (sent-rewritten c.in-Some.new.now a.unit.now (ap lent c.in-Some.is) _ c.in-Ok.field-0-test.1 (sym c.in-Ok.ensures)).0 in
    let u : c.unwrap_or.result ≡ answer_or 0 (says c.rewritten_len.result) = search rules in
    u ∙ ap (answer_or 0) c.rewritten_len.ensures ∙ size-or a.unit.now c.in-Some.new.now ∙ ap (λ (l : List ℕ). capped (length l)) (sym e)

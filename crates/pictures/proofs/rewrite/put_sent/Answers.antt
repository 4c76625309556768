use Rattle.std.proofs.Common.{arith, ap, sym, ◌∙◌, length}
use Rattle.bitio.specs.Lent.{pasted}
use Rattle.bitio.proofs.LentLaws.{pasted-nil}
use Rattle.pictures.specs.Flat.{lent}
use Rattle.pictures.proofs.SentLaws.{sent-plain, sent-refused, sent-copied, sent-rewritten}
use Rattle.pictures.proofs.rewrite.put_sent.Goals as goal

pub put_bytes-requires : goal.put_bytes-requires
put_bytes-requires c =
    let a = c.args in
    omega (arith, ap length (sent-plain a.unit.now (ap lent c.in_default.is)))

pub returns-in_default : goal.returns-in_default
returns-in_default c =
    let a = c.args in
    let e = sent-plain a.unit.now (ap lent c.in_default.is) in
    let w = c.put_bytes.ensures in
    (w.0 ∙ omega (arith, ap length e), w.1 ∙ ap (pasted _ _) (sym e))

pub put_bytes-requires-in-Ok-eq0 : goal.put_bytes-requires-in-Ok-eq0
put_bytes-requires-in-Ok-eq0 c =
    let a = c.args in
    omega (arith, ap length (sent-copied c.in-Some.new.now a.unit.now (ap lent c.in-Some.is) _ c.in-Ok-eq0.field-0-test (sym c.in-Ok-eq0.ensures)))

pub returns-in-Ok-eq0 : goal.returns-in-Ok-eq0
returns-in-Ok-eq0 c =
    let a = c.args in
    let e = sent-copied c.in-Some.new.now a.unit.now (ap lent c.in-Some.is) _ c.in-Ok-eq0.field-0-test (sym c.in-Ok-eq0.ensures) in
    let w = c.put_bytes-in-Ok-eq0.ensures in
    (w.0 ∙ omega (arith, ap length e), w.1 ∙ ap (pasted _ _) (sym e))

pub put_rewritten-requires : goal.put_rewritten-requires
put_rewritten-requires c =
    let a = c.args in
    let (e, r) = sent-rewritten c.in-Some.new.now a.unit.now (ap lent c.in-Some.is) _ c.in-Ok.field-0-test.1 (sym c.in-Ok.ensures) in
    record { reads = r; room = omega (arith, ap length e) }

pub returns-in-Ok : goal.returns-in-Ok
returns-in-Ok c =
    let a = c.args in
    let e = (sent-rewritten c.in-Some.new.now a.unit.now (ap lent c.in-Some.is) _ c.in-Ok.field-0-test.1 (sym c.in-Ok.ensures)).0 in
    let w = c.put_rewritten.ensures in
    (w.0 ∙ omega (arith, ap length e), w.1 ∙ ap (pasted _ _) (sym e))

pub returns-in-Err : goal.returns-in-Err
returns-in-Err c =
    let a = c.args in
    let e = sent-refused c.in-Some.new.now a.unit.now (ap lent c.in-Some.is) _ (sym c.in-Err.ensures) in
    (omega (arith, ap length e), sym (ap (pasted _ _) e ∙ pasted-nil _ _))

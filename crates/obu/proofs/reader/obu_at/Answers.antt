use Rattle.std.proofs.Common.{rules, sym, ◌∙◌}
use Rattle.obu.proofs.PlaceLaws.{at-end, at-forbidden, at-type, at-short, at-ext, at_plain}
use Rattle.obu.proofs.reader.obu_at.Goals as goal

pub returns-then-at-s : goal.returns-then-at-s
returns-then-at-s c = at-end _ _ c.if-at-s.true

pub returns-then-h-eq1 : goal.returns-then-h-eq1
returns-then-h-eq1 c = at-forbidden _ _ c.if-at-s.false c.if-h-eq1.true

pub returns-then-not-is_known_type : goal.returns-then-not-is_known_type
returns-then-not-is_known_type c = at-type _ _ c.if-at-s.false c.if-h-eq1.false (sym c.if-not-is_known_type.ensures)

pub returns-then-p-s : goal.returns-then-p-s
returns-then-p-s c = at-short _ _ c.if-at-s.false c.if-h-eq1.false (sym c.if-not-is_known_type.ensures) c.if-h-eq1-2.true c.if-p-s.true

pub returns-in_err-body_at : goal.returns-in_err-body_at
returns-in_err-body_at c =
    let e = c.in_err-body_at.ensures ∙ at-ext _ _ c.if-at-s.false c.if-h-eq1.false (sym c.if-not-is_known_type.ensures) c.if-h-eq1-2.true c.if-p-s.false in
    search (rules, e)

pub returns-then-h-eq1-2 : goal.returns-then-h-eq1-2
returns-then-h-eq1-2 c =
    c.in_ok-body_at.ensures ∙ at-ext _ _ c.if-at-s.false c.if-h-eq1.false (sym c.if-not-is_known_type.ensures) c.if-h-eq1-2.true c.if-p-s.false

pub returns-in_err-body_at-2 : goal.returns-in_err-body_at-2
returns-in_err-body_at-2 c =
    let e = c.in_err-body_at-2.ensures ∙ at_plain _ _ c.if-at-s.false c.if-h-eq1.false (sym c.if-not-is_known_type.ensures) c.if-h-eq1-2.false in
    search (rules, e)

pub returns : goal.returns
returns c = c.in_ok-body_at-2.ensures ∙ at_plain _ _ c.if-at-s.false c.if-h-eq1.false (sym c.if-not-is_known_type.ensures) c.if-h-eq1-2.false

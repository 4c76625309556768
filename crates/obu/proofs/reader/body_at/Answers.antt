use Rattle.std.proofs.Common.{arith, ◌≡◌, ◌+◌, ◌≤◌, List, ℕ, length, drop, length-drop, ap, sym, ◌∙◌}
use lib.Seq.{drop-drop}
use Rattle.std.specs.Prelude.{Some}
use Rattle.bitio.specs.Leb.{read_leb, leb_then, leb_answer}
use Rattle.bitio.proofs.LebLaws.{is_number, is-bad}
use Rattle.obu.proofs.PlaceLaws.{slice-to-end, body-none, body-over, body-got, body-rest}
use Rattle.obu.proofs.reader.body_at.Goals as goal

-- a number in the part from p on
number_at : (s : List ℕ) (p v n : ℕ) → p ≤ length s → leb_answer (drop p s) (read_leb (drop p s)) ≡ Some (v, n) → (read_leb (drop p s) ≡ leb_then v (drop (p + n) s)) × (p + n ≤ length s)
number_at s p v n h e =
    let i = is_number (drop p s) v n e in
    (i.read ∙ ap (leb_then v) (drop-drop n p s), omega (arith, i.within, length-drop p s))

pub returns-then-h-ne1 : goal.returns-then-h-ne1
returns-then-h-ne1 c = let a = c.args in body-rest a.s.now a.h _ a.p c.requires c.if-h-ne1.true

pub returns-in_default : goal.returns-in_default
returns-in_default c =
    let a = c.args in
    body-none a.s.now a.h _ a.p c.requires c.if-h-ne1.false (is-bad (drop a.p a.s.now) (rw (slice-to-end a.s.now a.p) at (sym c.in_default.ensures)))

pub returns-then-size-len : goal.returns-then-size-len
returns-then-size-len c =
    let a = c.args in
    let g = number_at a.s.now a.p _ _ c.requires (rw (slice-to-end a.s.now a.p) at (sym c.in-Some.ensures)) in
    body-over a.s.now a.h _ a.p c.requires c.if-h-ne1.false _ _ g.0 c.if-size-len.true

pub returns : goal.returns
returns c =
    let a = c.args in
    let g = number_at a.s.now a.p _ _ c.requires (rw (slice-to-end a.s.now a.p) at (sym c.in-Some.ensures)) in
    body-got a.s.now a.h _ a.p c.requires c.if-h-ne1.false _ _ g.0 g.1 c.if-size-len.false

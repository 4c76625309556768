use Rattle.std.proofs.Common.{arith, rules, sym, ◌∙◌}
use Rattle.bitio.proofs.UvlcLaws.{zeros-all, zeros-short, zeros-end, zeros-more}
use Rattle.bitio.proofs.reader.BitReader.uvlc.Goals as goal

pub returns-in_err-bit : goal.returns-in_err-bit
returns-in_err-bit c =
    let l = c.loop-zeros in
    let z = zeros-short _ _ l.zeros l.reader.pos l.invariant (omega arith) _ (sym c.in_err-bit.ensures) in
    search (rules, z)

pub returns-then-bit-eq1 : goal.returns-then-bit-eq1
returns-then-bit-eq1 c =
    let l = c.loop-zeros in
    c.uvlc_suffix.ensures ∙ sym (zeros-end _ _ l.zeros l.reader.pos l.invariant (omega arith) _ (rw c.if-bit-eq1.true at (sym c.in_ok-bit.ensures)))

pub loop-zeros-preserved : goal.loop-zeros-preserved
loop-zeros-preserved c =
    let l = c.loop-zeros in
    zeros-more _ _ l.zeros l.reader.pos l.invariant (omega arith) _ _ (sym c.in_ok-bit.ensures) c.if-bit-eq1.false

pub returns : goal.returns
returns c =
    let l = c.loop-zeros in
    sym (zeros-all _ _ l.zeros l.reader.pos l.invariant (omega arith))

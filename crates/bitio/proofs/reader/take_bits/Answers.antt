use Rattle.std.proofs.Common.{arith, rules}
use Rattle.bitio.specs.Bits.{bits_at}
use Rattle.bitio.proofs.BitLaws.{bits-turn, bits-room}
use Rattle.bitio.proofs.reader.take_bits.Goals as goal

pub loop-done-init : goal.loop-done-init
unfolding bits_at
loop-done-init c = search rules

pub overflow_mul-x : goal.overflow_mul-x
overflow_mul-x c =
    let a = c.args in
    let l = c.loop-done in
    omega (arith, bits-room a.s.now a.pos l.done c.min-k.result 0 l.invariant.bits (omega arith) (omega arith))

pub overflow_add-x : goal.overflow_add-x
overflow_add-x c =
    let a = c.args in
    let l = c.loop-done in
    record { fits = bits-room a.s.now a.pos l.done c.min-k.result _ l.invariant.bits (omega arith) (omega arith) }

pub loop-done-preserved : goal.loop-done-preserved
loop-done-preserved c =
    let a = c.args in
    let l = c.loop-done in
    record { within = omega arith; bits = bits-turn a.s.now a.pos l.done c.min-k.result l.invariant.bits (omega arith) }

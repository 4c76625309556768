use Rattle.std.proofs.Common.{arith, refl, get_or, ◌-◌}
use native.Mathlib.Decide.{dec_lt}
use Rattle.bitio.proofs.LebTurns.{number-start, number_cut, number-long, number-last, number_more, weight-more, weight-le, byte-room}
use Rattle.bitio.proofs.leb128.leb128.Goals as goal

pub loop-i-init : goal.loop-i-init
loop-i-init c = record { weight = refl; small = omega arith; left = number-start c.args.s.now }

pub overflow_mul-result : goal.overflow_mul-result
overflow_mul-result c =
    let l = c.loop-i in
    omega (arith, weight-le l.i (omega arith), byte-room 255 l.w (get_or c.args.s.now l.i 0) l.v (omega arith) (omega arith))

pub overflow_add-result : goal.overflow_add-result
overflow_add-result c =
    let l = c.loop-i in
    omega (arith, weight-le l.i (omega arith), byte-room 255 l.w (get_or c.args.s.now l.i 0) l.v (omega arith) (omega arith))

pub returns-then-b-lt128 : goal.returns-then-b-lt128
returns-then-b-lt128 c =
    let l = c.loop-i in
    number-last _ l.v l.w l.i (omega arith) (omega arith) (omega arith) l.invariant.left

pub overflow_mul-v : goal.overflow_mul-v
overflow_mul-v c =
    let l = c.loop-i in
    omega (arith, weight-le l.i (omega arith), byte-room 127 l.w (get_or c.args.s.now l.i 0 - 128) l.v (omega arith) (omega arith))

pub overflow_add-v : goal.overflow_add-v
overflow_add-v c =
    let l = c.loop-i in
    omega (arith, weight-le l.i (omega arith), byte-room 127 l.w (get_or c.args.s.now l.i 0 - 128) l.v (omega arith) (omega arith))

pub overflow_mul-w : goal.overflow_mul-w
overflow_mul-w c = omega (arith, weight-le c.loop-i.i (omega arith))

pub loop-i-preserved : goal.loop-i-preserved
loop-i-preserved c =
    let l = c.loop-i in
    let s = c.args.s.now in
    record {
      weight = rw l.invariant.weight (weight-more l.i);
      small = byte-room 127 l.w (get_or s l.i 0 - 128) l.v (omega arith) (omega arith);
      left = number_more s l.v l.w l.i (omega arith) (omega arith) (omega arith) l.invariant.left;
    }

-- the loop ends after eight bytes or at the end of s
pub returns : goal.returns
returns c =
    let l = c.loop-i in
    elim (dec_lt l.i 8) [
      | yes h ↦ number_cut _ l.v l.w l.i (omega arith) l.invariant.left
      | no h ↦ number-long _ l.v l.w l.i (omega arith) l.invariant.left
    ]

use Rattle.std.proofs.Common.{arith, refl, ap, ◌∙◌, length-set}
use Rattle.bitio.specs.Write.{with_bit, put_bits}
use Rattle.bitio.proofs.WriteLaws.{put-turn, put-done}
use Rattle.bitio.proofs.writer.put_bits.Goals as goal

pub loop-i-init : goal.loop-i-init
unfolding put_bits
loop-i-init c = record { same_length = refl; put = refl }

pub loop-i-preserved : goal.loop-i-preserved
loop-i-preserved c =
    let a = c.args in
    let l = c.loop-i in
    record {
      same_length = simp length-set l.invariant.same_length;
      put = put-turn a.out.now a.pos a.v a.n l.i l.invariant.put (omega arith) (c.with_bit.ensures ∙ ap (with_bit _ _) c.bit_of-b.ensures);
    }

pub returns : goal.returns
returns c =
    let a = c.args in
    let l = c.loop-i in
    put-done a.out.now a.pos a.v a.n l.i l.invariant.put (omega arith) (omega arith)

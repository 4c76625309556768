use Rattle.std.proofs.Common.{arith, ap, length, ◌∙◌, add-one, length-set}
use Rattle.bitio.specs.Leb.{leb_bytes}
use Rattle.bitio.proofs.LebLaws.{bytes-last, bytes-more, bytes-some}
use Rattle.bitio.proofs.LentLaws.{pasted-sets}
use Rattle.bitio.proofs.leb128.put_leb128.Goals as goal

pub bounds-out-i : goal.bounds-out-i
bounds-out-i c = omega (arith, bytes-some c.loop-x.x)

pub overflow_add-i : goal.overflow_add-i
overflow_add-i c = omega (arith, bytes-some c.loop-x.x)

pub loop-x-preserved : goal.loop-x-preserved
loop-x-preserved c =
    let l = c.loop-x in
    let e = bytes-more l.x (omega arith) (omega arith) in
    record {
      fits = omega arith;
      same_length = simp length-set l.invariant.same_length;
      place = omega (arith, ap length e);
      stored = rw add-one (rw e at l.invariant.stored);
    }

pub bounds-out-i-2 : goal.bounds-out-i-2
bounds-out-i-2 c = omega (arith, bytes-some c.loop-x.x)

pub overflow_add-result : goal.overflow_add-result
overflow_add-result c = omega (arith, bytes-some c.loop-x.x)

pub returns : goal.returns
returns c =
    let l = c.loop-x in
    let a = c.args in
    let e = bytes-last l.x (omega arith) in
    (omega (arith, ap length e), (rw e at l.invariant.stored) ∙ pasted-sets a.out.now a.at (leb_bytes a.v) c.requires)

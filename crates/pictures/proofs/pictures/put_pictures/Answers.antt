use Rattle.std.proofs.Common.{arith}
use Rattle.pictures.proofs.PutLaws.{put-start, put_front, put-ends, put-turn, put-end}
use Rattle.pictures.proofs.pictures.put_pictures.Goals as goal

pub loop-i-init : goal.loop-i-init
loop-i-init c = put-start _ _ _ _ _

pub put_units-at-requires : goal.put_units-at-requires
put_units-at-requires c =
    let l = c.loop-i in
    let g = c.requires in
    let k = c.key-key.ensures in
    let u = c.golden-golden.ensures in
    let f = put_front l.invariant (omega arith) _ _ k u in
    record { small = omega (arith, f); pictures = omega (arith, f, l.invariant.pictures-len); ends = put-ends l.invariant (omega arith) _ _ k u g.ends }

pub loop-i-preserved : goal.loop-i-preserved
loop-i-preserved c =
    let l = c.loop-i in
    let g = c.requires in
    let w = c.put_units-at.ensures in
    put-turn l.invariant (omega arith) _ _ c.key-key.ensures c.golden-golden.ensures g.pictures g.ends _ _ _ w.next w.pictures w.ends

pub returns : goal.returns
returns c = let r = put-end c.loop-i.invariant (omega arith) in record { pictures = r.0; ends = r.1 }

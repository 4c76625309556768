use Rattle.std.proofs.Common.{arith}
use Rattle.std.proofs.lemmas.List.{take_more_set}
use Rattle.protocol.proofs.TextLaws.{byte_more, bytes_all}
use Rattle.protocol.proofs.text.decode_hex.Goals as goal

pub loop-i-preserved : goal.loop-i-preserved
loop-i-preserved c =
    let l = c.loop-i in
    let e = take_more_set l.out l.i c.byte_of.result (omega arith) in
    let f = byte_more c.args.text.now l.i (omega arith) in
    cc

pub returns : goal.returns
returns c = bytes_all c.args.text.now c.loop-i.out c.loop-i.i (omega arith) (omega arith) c.loop-i.invariant

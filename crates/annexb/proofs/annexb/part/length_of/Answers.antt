use Rattle.std.proofs.Common.{arith, ◌<◌, length}
use Rattle.std.proofs.lemmas.Grind.{common_steps}
use Rattle.bitio.proofs.LebLaws.{is_byte}
use Rattle.annexb.proofs.annexb.part.length_of.Goals as goal

pub returns-then-s-lt128 : goal.returns-then-s-lt128
returns-then-s-lt128 c =
    let l : 0 < length c.args.s.now = grind (arith, common_steps) in
    is_byte _ l c.if-s-lt128.true

use Rattle.std.proofs.Common.{arith, ◌<◌, sym}
use lib.Pow.{pow-lt}
use Rattle.bitio.proofs.BitLaws.{read-lt, shl_one}
use Rattle.bitio.proofs.reader.BitReader.uvlc_suffix.Goals as goal

pub overflow_add-result : goal.overflow_add-result
overflow_add-result c =
    let z = c.args.zeros in
    let l : z < 32 = omega arith in
    omega (arith, shl_one z (omega arith), pow-lt l, read-lt _ _ _ (sym c.in_ok-v.ensures))

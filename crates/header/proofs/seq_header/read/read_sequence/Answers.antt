use Rattle.std.proofs.Common.{arith, sym}
use Rattle.header.specs.SequenceRules.{ours}
use Rattle.header.proofs.WithinLaws.{opening-within}
use Rattle.header.proofs.seq_header.read.read_sequence.Goals as goal

pub invariant_of-bounded : goal.invariant_of-bounded
invariant_of-bounded c =
    let w = rw (sym c.in_ok-opening.ensures) at (opening-within ours c.args.payload.now 0) in
    record { delay = omega (arith, w.model.delay); count = omega (arith, w.count) }

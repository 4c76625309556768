use Rattle.std.proofs.Common.{arith}
use Rattle.packets.proofs.CanonicalLaws.{clean-same, canon-full, canon-there}
use Rattle.packets.proofs.packets.canonical.copy_unit.Goals as goal

pub returns-then-unit-out : goal.returns-then-unit-out
returns-then-unit-out c =
    let u = c.args.unit.now in
    let e = canon-full u _ c.requires.short u (clean-same u c.requires.clean) c.requires.short (omega arith) in
    record { answer = e.0; out = e.1 }

pub returns : goal.returns
returns c =
    let u = c.args.unit.now in
    let w = c.put_bytes.ensures in
    let e = canon-there u _ c.requires.short u (clean-same u c.requires.clean) c.requires.short (omega arith) (omega (arith, w.0)) w.1 in
    record { answer = e.0; out = e.1 }

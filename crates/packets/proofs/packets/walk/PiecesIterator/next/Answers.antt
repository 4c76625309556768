use Rattle.std.proofs.Common.{arith, refl, ◌∙◌}
use Rattle.packets.specs.code.Walk.{CanGive}
use Rattle.container.specs.Lists.{listed}
use Rattle.container.proofs.ListLaws.{listed-length}
use Rattle.packets.proofs.PacketListLaws.{next-found}
use Rattle.packets.proofs.PacketMergeLaws.{among, past}
use Rattle.packets.proofs.packets.walk.PiecesIterator.next.Goals as goal

pub returns-clause-goes : goal.returns-clause-goes
returns-clause-goes c =
    let x = c.args.self.now.packets.units in
    let m = c.requires.match in
    let w = rw c.in_ok-close.was at c.requires.close in
    let n = next-found x.bytes.now x.ends.now _ (omega (arith, w.1, m)) _ c.next_close-next.ensures in
    let k : CanGive _ = record { match = m; close = among (listed x.bytes.now x.ends.now) _ c.next_close-next.result n (listed-length 0 x.bytes.now x.ends.now ∙ m) c.stop_at.ensures } in
    record { on = λ _. (k, tt, omega (arith, w.0, w.1, past _ c.next_close-next.result w.1 c.stop_at.ensures)); keeps = k; rests = λ _. tt }

pub returns-clause-steps : goal.returns-clause-steps
returns-clause-steps c =
    let x = c.args.self.now.packets.units in
    let w = rw c.in_ok-close.was at c.requires.close in
    let n = next-found x.bytes.now x.ends.now _ (omega (arith, w.1, c.requires.match)) _ c.next_close-next.ensures in
    (c.in_ok-close.was, refl, n, c.stop_at.ensures, refl, refl)

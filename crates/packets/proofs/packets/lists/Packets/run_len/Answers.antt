use Rattle.std.proofs.Common.{arith, ap, length}
use Rattle.container.specs.Lists.{listed}
use Rattle.packets.proofs.PacketRunLaws.{run_none, run-ranged, run-turn, run-done}
use Rattle.packets.proofs.packets.lists.Packets.run_len.Goals as goal

pub loop-i-init : goal.loop-i-init
loop-i-init c = omega (arith, ap length (run_none c.args.keep (listed c.args.self.units.bytes.now c.args.self.units.ends.now) c.args.a))

pub written_len-requires : goal.written_len-requires
written_len-requires c = run-ranged c.requires c.loop-i.i (omega arith) c.loop-i-test.true c.unit-u.ensures

pub loop-i-preserved : goal.loop-i-preserved
loop-i-preserved c =
    run-turn c.requires c.loop-i.i (omega arith) c.loop-i-test.true c.unit-u.ensures c.args.keep c.loop-i.invariant c.written_len.ensures c.saturating_add-n.ensures

pub returns : goal.returns
returns c = run-done c.args.keep (listed c.args.self.units.bytes.now c.args.self.units.ends.now) c.args.a c.loop-i.i c.args.b (omega (arith, c.requires.order)) c.loop-i.invariant

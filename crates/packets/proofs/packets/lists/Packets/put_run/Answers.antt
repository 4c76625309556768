use Rattle.std.proofs.Common.{arith}
use Rattle.container.specs.Lists.{listed}
use Rattle.packets.proofs.PacketRunLaws.{run-start, run-roomy, run-wrote, run-wrote-all}
use Rattle.packets.proofs.packets.lists.Packets.put_run.Goals as goal

pub loop-i-init : goal.loop-i-init
loop-i-init c = run-start c.args.keep (listed c.args.self.units.bytes.now c.args.self.units.ends.now) c.args.a _ _

pub put_written-w-requires : goal.put_written-w-requires
put_written-w-requires c =
    run-roomy c.requires.run c.loop-i.i (omega arith) c.loop-i-test.true c.unit-u.ensures c.args.keep c.requires.room c.loop-i.invariant

pub loop-i-preserved : goal.loop-i-preserved
loop-i-preserved c =
    run-wrote c.requires.run c.loop-i.i (omega arith) c.loop-i-test.true c.unit-u.ensures c.args.keep c.requires.room c.loop-i.invariant c.put_written-w.ensures

pub returns : goal.returns
returns c = run-wrote-all c.args.keep (listed c.args.self.units.bytes.now c.args.self.units.ends.now) c.args.a c.loop-i.i c.args.b (omega (arith, c.requires.run.order)) c.loop-i.invariant

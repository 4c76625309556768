use Rattle.std.proofs.Common.{arith, rules, ap, length}
use Rattle.bitio.proofs.LimitLaws.{limit_kept, limit_passed}
use Rattle.packets.specs.code.PacketRuns.{Given}
use Rattle.container.proofs.ListLaws.{listed-length}
use Rattle.packets.proofs.PacketListLaws.{next-found}
use Rattle.packets.proofs.PacketOutcomeLaws.{out-long, out-unmatched, out-wrong, none-closes, four}
use Rattle.packets.proofs.packets.merge_frameless_packets.Goals as goal

pub returns-in_err-check_limit-clause-answer : goal.returns-in_err-check_limit-clause-answer
returns-in_err-check_limit-clause-answer c =
    let e = (four (out-long c.args.packets.now c.args.packet_ends.now c.args.times.now c.args.out.now c.args.out_ends.now c.args.out_times.now c.in_err-check_limit.field-0.0 (limit_passed _ c.in_err-check_limit.ensures))).0 in
    search (rules, e)

pub returns-in_err-check_limit-clause-out : goal.returns-in_err-check_limit-clause-out
returns-in_err-check_limit-clause-out c =
    let e = (four (out-long c.args.packets.now c.args.packet_ends.now c.args.times.now c.args.out.now c.args.out_ends.now c.args.out_times.now c.in_err-check_limit.field-0.0 (limit_passed _ c.in_err-check_limit.ensures))).1.0 in
    search (rules, e)

pub returns-in_err-check_limit-clause-ends : goal.returns-in_err-check_limit-clause-ends
returns-in_err-check_limit-clause-ends c =
    let e = (four (out-long c.args.packets.now c.args.packet_ends.now c.args.times.now c.args.out.now c.args.out_ends.now c.args.out_times.now c.in_err-check_limit.field-0.0 (limit_passed _ c.in_err-check_limit.ensures))).1.1.0 in
    search (rules, e)

pub returns-in_err-check_limit-clause-times : goal.returns-in_err-check_limit-clause-times
returns-in_err-check_limit-clause-times c =
    let e = (four (out-long c.args.packets.now c.args.packet_ends.now c.args.times.now c.args.out.now c.args.out_ends.now c.args.out_times.now c.in_err-check_limit.field-0.0 (limit_passed _ c.in_err-check_limit.ensures))).1.1.1 in
    search (rules, e)

pub returns-then-packet_ends-times : goal.returns-then-packet_ends-times
returns-then-packet_ends-times c =
    let e = four (out-unmatched c.args.packets.now c.args.packet_ends.now c.args.times.now c.args.out.now c.args.out_ends.now c.args.out_times.now (limit_kept _ c.in_ok-check_limit.ensures) (λ q. omega (arith, c.if-packet_ends-times.true))) in
    record { answer = e.0; out = e.1.0; ends = e.1.1.0; times = e.1.1.1 }

pub returns-in_err-units-clause-answer : goal.returns-in_err-units-clause-answer
returns-in_err-units-clause-answer c =
    let e = (four (out-wrong c.args.packets.now c.args.packet_ends.now c.args.times.now c.args.out.now c.args.out_ends.now c.args.out_times.now c.in_err-units.field-0.0 (limit_kept _ c.in_ok-check_limit.ensures) (omega arith) c.in_err-units.ensures)).0 in
    search (rules, e)

pub returns-in_err-units-clause-out : goal.returns-in_err-units-clause-out
returns-in_err-units-clause-out c =
    let e = (four (out-wrong c.args.packets.now c.args.packet_ends.now c.args.times.now c.args.out.now c.args.out_ends.now c.args.out_times.now c.in_err-units.field-0.0 (limit_kept _ c.in_ok-check_limit.ensures) (omega arith) c.in_err-units.ensures)).1.0 in
    search (rules, e)

pub returns-in_err-units-clause-ends : goal.returns-in_err-units-clause-ends
returns-in_err-units-clause-ends c =
    let e = (four (out-wrong c.args.packets.now c.args.packet_ends.now c.args.times.now c.args.out.now c.args.out_ends.now c.args.out_times.now c.in_err-units.field-0.0 (limit_kept _ c.in_ok-check_limit.ensures) (omega arith) c.in_err-units.ensures)).1.1.0 in
    search (rules, e)

pub returns-in_err-units-clause-times : goal.returns-in_err-units-clause-times
returns-in_err-units-clause-times c =
    let e = (four (out-wrong c.args.packets.now c.args.packet_ends.now c.args.times.now c.args.out.now c.args.out_ends.now c.args.out_times.now c.in_err-units.field-0.0 (limit_kept _ c.in_ok-check_limit.ensures) (omega arith) c.in_err-units.ensures)).1.1.1 in
    search (rules, e)

pub merge_some-requires : goal.merge_some-requires
merge_some-requires c =
    let x = c.in_ok-units.units in
    let g : Given x.bytes.now x.ends.now c.args.times.now = record { short = rw c.in_ok-units.ensures.0 (limit_kept _ c.in_ok-check_limit.ensures); match = omega (arith, ap length c.in_ok-units.ensures.1); listed = x.is_list } in
    let n = next-found x.bytes.now x.ends.now 0 (omega arith) _ c.in-Some.ensures in
    record { given = g; next = n.0; some = omega (arith, n.1, listed-length 0 x.bytes.now x.ends.now) }

pub returns-in-Some : goal.returns-in-Some
returns-in-Some c =
    let x = c.in_ok-units.ensures in
    let e = four (rw (x.0, x.1) at c.merge_some.ensures) in
    record { answer = e.0; out = e.1.0; ends = e.1.1.0; times = e.1.1.1 }

pub merge_none-requires : goal.merge_none-requires
merge_none-requires c =
    let x = c.in_ok-units.units in
    let g : Given x.bytes.now x.ends.now c.args.times.now = record { short = rw c.in_ok-units.ensures.0 (limit_kept _ c.in_ok-check_limit.ensures); match = omega (arith, ap length c.in_ok-units.ensures.1); listed = x.is_list } in
    none-closes g (next-found x.bytes.now x.ends.now 0 (omega arith) _ c.in-None.ensures)

pub returns-in-None : goal.returns-in-None
returns-in-None c =
    let x = c.in_ok-units.ensures in
    let e = four (rw (x.0, x.1) at c.merge_none.ensures) in
    record { answer = e.0; out = e.1.0; ends = e.1.1.0; times = e.1.1.1 }

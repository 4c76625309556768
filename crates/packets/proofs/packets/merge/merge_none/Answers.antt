use Rattle.std.proofs.Common.{arith, sym, length}
use Rattle.packets.proofs.PacketListLaws.{full-found}
use Rattle.packets.proofs.PacketOutcomeLaws.{none-run, out_none, out-full, out-room, out-size, out-there, one-totals, one-room, one-slots, one_written}
use Rattle.packets.proofs.packets.merge.merge_none.Goals as goal

pub returns-in_default : goal.returns-in_default
returns-in_default c = out_none c.args.packets.units.bytes.now c.args.packets.units.ends.now c.args.packets.times.now c.requires _ (full-found c.args.packets.units.bytes.now c.args.packets.units.ends.now 0 (length c.args.packets.times.now) (omega arith) (omega (arith, c.requires.given.match)) _ c.in_default.ensures) (omega arith) c.args.out.now c.args.out_ends.now c.args.out_times.now

pub run_len-requires : goal.run_len-requires
run_len-requires c = none-run c.args.packets.units.bytes.now c.args.packets.units.ends.now c.args.packets.times.now c.requires

pub returns-then-not-have_room : goal.returns-then-not-have_room
returns-then-not-have_room c =
    let z = one-totals c.args.packets.units.bytes.now c.args.packets.units.ends.now c.args.packets.times.now c.requires _ (full-found c.args.packets.units.bytes.now c.args.packets.units.ends.now 0 (length c.args.packets.times.now) (omega arith) (omega (arith, c.requires.given.match)) _ c.in-Some.ensures).0 (full-found c.args.packets.units.bytes.now c.args.packets.units.ends.now 0 (length c.args.packets.times.now) (omega arith) (omega (arith, c.requires.given.match)) _ c.in-Some.ensures).1 c.run_len.ensures in
    let f = sym c.if-not-have_room.ensures in
    out-full c.args.packets.units.bytes.now c.args.packets.units.ends.now c.args.packets.times.now c.args.out.now c.args.out_ends.now c.args.out_times.now c.requires.given _ _ z f

pub put_run-requires : goal.put_run-requires
put_run-requires c =
    let z = one-totals c.args.packets.units.bytes.now c.args.packets.units.ends.now c.args.packets.times.now c.requires _ (full-found c.args.packets.units.bytes.now c.args.packets.units.ends.now 0 (length c.args.packets.times.now) (omega arith) (omega (arith, c.requires.given.match)) _ c.in-Some.ensures).0 (full-found c.args.packets.units.bytes.now c.args.packets.units.ends.now 0 (length c.args.packets.times.now) (omega arith) (omega (arith, c.requires.given.match)) _ c.in-Some.ensures).1 c.run_len.ensures in
    let f = sym c.if-not-have_room.ensures in
    let r = out-room c.args.packets.units.bytes.now c.args.packets.units.ends.now c.args.packets.times.now c.args.out.now c.args.out_ends.now c.args.out_times.now c.requires.given _ _ z f in
    one-room c.args.packets.units.bytes.now c.args.packets.units.ends.now c.args.packets.times.now c.requires _ (full-found c.args.packets.units.bytes.now c.args.packets.units.ends.now 0 (length c.args.packets.times.now) (omega arith) (omega (arith, c.requires.given.match)) _ c.in-Some.ensures).0 (full-found c.args.packets.units.bytes.now c.args.packets.units.ends.now 0 (length c.args.packets.times.now) (omega arith) (omega (arith, c.requires.given.match)) _ c.in-Some.ensures).1 r

pub overflow_cast-out_ends : goal.overflow_cast-out_ends
overflow_cast-out_ends c =
    let z = one-totals c.args.packets.units.bytes.now c.args.packets.units.ends.now c.args.packets.times.now c.requires _ (full-found c.args.packets.units.bytes.now c.args.packets.units.ends.now 0 (length c.args.packets.times.now) (omega arith) (omega (arith, c.requires.given.match)) _ c.in-Some.ensures).0 (full-found c.args.packets.units.bytes.now c.args.packets.units.ends.now 0 (length c.args.packets.times.now) (omega arith) (omega (arith, c.requires.given.match)) _ c.in-Some.ensures).1 c.run_len.ensures in
    let f = sym c.if-not-have_room.ensures in
    let r = out-room c.args.packets.units.bytes.now c.args.packets.units.ends.now c.args.packets.times.now c.args.out.now c.args.out_ends.now c.args.out_times.now c.requires.given _ _ z f in
    omega (arith, r.small, out-size c.args.packets.units.bytes.now c.args.packets.units.ends.now c.args.packets.times.now c.args.out.now c.args.out_ends.now c.args.out_times.now c.requires.given _ _ z f)

pub bounds-out_ends-0 : goal.bounds-out_ends-0
bounds-out_ends-0 c =
    let z = one-totals c.args.packets.units.bytes.now c.args.packets.units.ends.now c.args.packets.times.now c.requires _ (full-found c.args.packets.units.bytes.now c.args.packets.units.ends.now 0 (length c.args.packets.times.now) (omega arith) (omega (arith, c.requires.given.match)) _ c.in-Some.ensures).0 (full-found c.args.packets.units.bytes.now c.args.packets.units.ends.now 0 (length c.args.packets.times.now) (omega arith) (omega (arith, c.requires.given.match)) _ c.in-Some.ensures).1 c.run_len.ensures in
    let f = sym c.if-not-have_room.ensures in
    let r = out-room c.args.packets.units.bytes.now c.args.packets.units.ends.now c.args.packets.times.now c.args.out.now c.args.out_ends.now c.args.out_times.now c.requires.given _ _ z f in
    omega (arith, one-slots c.args.packets.units.bytes.now c.args.packets.units.ends.now c.args.packets.times.now c.requires _ (full-found c.args.packets.units.bytes.now c.args.packets.units.ends.now 0 (length c.args.packets.times.now) (omega arith) (omega (arith, c.requires.given.match)) _ c.in-Some.ensures).0 (full-found c.args.packets.units.bytes.now c.args.packets.units.ends.now 0 (length c.args.packets.times.now) (omega arith) (omega (arith, c.requires.given.match)) _ c.in-Some.ensures).1 r)

pub bounds-out_times-0 : goal.bounds-out_times-0
bounds-out_times-0 c =
    let z = one-totals c.args.packets.units.bytes.now c.args.packets.units.ends.now c.args.packets.times.now c.requires _ (full-found c.args.packets.units.bytes.now c.args.packets.units.ends.now 0 (length c.args.packets.times.now) (omega arith) (omega (arith, c.requires.given.match)) _ c.in-Some.ensures).0 (full-found c.args.packets.units.bytes.now c.args.packets.units.ends.now 0 (length c.args.packets.times.now) (omega arith) (omega (arith, c.requires.given.match)) _ c.in-Some.ensures).1 c.run_len.ensures in
    let f = sym c.if-not-have_room.ensures in
    let r = out-room c.args.packets.units.bytes.now c.args.packets.units.ends.now c.args.packets.times.now c.args.out.now c.args.out_ends.now c.args.out_times.now c.requires.given _ _ z f in
    omega (arith, one-slots c.args.packets.units.bytes.now c.args.packets.units.ends.now c.args.packets.times.now c.requires _ (full-found c.args.packets.units.bytes.now c.args.packets.units.ends.now 0 (length c.args.packets.times.now) (omega arith) (omega (arith, c.requires.given.match)) _ c.in-Some.ensures).0 (full-found c.args.packets.units.bytes.now c.args.packets.units.ends.now 0 (length c.args.packets.times.now) (omega arith) (omega (arith, c.requires.given.match)) _ c.in-Some.ensures).1 r)

pub offset_bounds-packets-i : goal.offset_bounds-packets-i
offset_bounds-packets-i c = omega (arith, (full-found c.args.packets.units.bytes.now c.args.packets.units.ends.now 0 (length c.args.packets.times.now) (omega arith) (omega (arith, c.requires.given.match)) _ c.in-Some.ensures).1)

pub bounds-packets-i : goal.bounds-packets-i
bounds-packets-i c = (full-found c.args.packets.units.bytes.now c.args.packets.units.ends.now 0 (length c.args.packets.times.now) (omega arith) (omega (arith, c.requires.given.match)) _ c.in-Some.ensures).1

pub returns : goal.returns
returns c =
    let z = one-totals c.args.packets.units.bytes.now c.args.packets.units.ends.now c.args.packets.times.now c.requires _ (full-found c.args.packets.units.bytes.now c.args.packets.units.ends.now 0 (length c.args.packets.times.now) (omega arith) (omega (arith, c.requires.given.match)) _ c.in-Some.ensures).0 (full-found c.args.packets.units.bytes.now c.args.packets.units.ends.now 0 (length c.args.packets.times.now) (omega arith) (omega (arith, c.requires.given.match)) _ c.in-Some.ensures).1 c.run_len.ensures in
    let f = sym c.if-not-have_room.ensures in
    let r = out-room c.args.packets.units.bytes.now c.args.packets.units.ends.now c.args.packets.times.now c.args.out.now c.args.out_ends.now c.args.out_times.now c.requires.given _ _ z f in
    out-there c.args.packets.units.bytes.now c.args.packets.units.ends.now c.args.packets.times.now c.args.out.now c.args.out_ends.now c.args.out_times.now c.requires.given _ _ z f
    (one_written c.args.packets.units.bytes.now c.args.packets.units.ends.now c.args.packets.times.now c.requires _ (full-found c.args.packets.units.bytes.now c.args.packets.units.ends.now 0 (length c.args.packets.times.now) (omega arith) (omega (arith, c.requires.given.match)) _ c.in-Some.ensures).0 (full-found c.args.packets.units.bytes.now c.args.packets.units.ends.now 0 (length c.args.packets.times.now) (omega arith) (omega (arith, c.requires.given.match)) _ c.in-Some.ensures).1 r (out-size c.args.packets.units.bytes.now c.args.packets.units.ends.now c.args.packets.times.now c.args.out.now c.args.out_ends.now c.args.out_times.now c.requires.given _ _ z f) c.put_run.ensures)

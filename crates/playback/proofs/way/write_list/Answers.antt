use Rattle.std.proofs.Common.{rules}
use Rattle.playback.specs.Way.{form_says}
use Rattle.playback.proofs.WayLaws.{write-stop, write-long, write-slots, write-go}
use Rattle.playback.proofs.way.write_list.Goals as goal

pub returns-in_err-gathered-clause-written : goal.returns-in_err-gathered-clause-written
returns-in_err-gathered-clause-written c =
    let e = write-stop (form_says c.args.form) _ _ _ c.args.way.now.out.now _ c.in_err-gathered.ensures in
    search (rules, e)

pub write-requires : goal.write-requires
write-requires c =
    let o = c.args.way.now.out.now in
    record { bytes = write-long (form_says c.args.form) _ _ _ o _ c.in_ok-gathered.ensures; units = write-slots (form_says c.args.form) _ _ _ o _ c.in_ok-gathered.ensures }

pub returns-clause-written : goal.returns-clause-written
returns-clause-written c =
    let w = c.write.ensures in
    rw (w.units, w.unit_ends) (write-go _ _ _ _ _ _ c.in_ok-gathered.ensures _ _ w.written)

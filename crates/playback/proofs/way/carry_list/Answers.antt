use Rattle.std.proofs.Common.{rules}
use Rattle.playback.specs.Lent.{store}
use Rattle.playback.proofs.WayLaws.{carry-stop, carry-long, carry-go}
use Rattle.playback.proofs.way.carry_list.Goals as goal

pub returns-in_err-written-clause-carried : goal.returns-in_err-written-clause-carried
returns-in_err-written-clause-carried c =
    let w = c.args.way.now in
    let e = carry-stop _ _ _ _ (store w.back.now w.back_ends.now) _ c.in_err-written.ensures.written in
    search (rules, e)

pub read-requires : goal.read-requires
read-requires c = let w = c.args.way.now in carry-long _ _ _ _ (store w.back.now w.back_ends.now) _ c.in_ok-written.ensures.written

pub returns-clause-carried : goal.returns-clause-carried
returns-clause-carried c =
    let w = c.in_ok-written.ensures in
    let r = rw (w.back, w.back_ends) at c.read.ensures.stored in
    rw (c.read.ensures.container) (carry-go _ _ _ _ _ _ w.written _ _ r)

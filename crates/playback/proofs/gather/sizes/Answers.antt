use Rattle.playback.proofs.GatherLaws.{left-next, left-none, measuring-start, measuring-next, measuring-end}
use Rattle.playback.proofs.gather.sizes.Goals as goal

pub loop-entry-init : goal.loop-entry-init
loop-entry-init c = measuring-start _

pub loop-entry-preserved : goal.loop-entry-preserved
loop-entry-preserved c =
    measuring-next c.loop-entry.invariant (left-next c.args.listed _ c.loop-entry-test.true) c.named.ensures c.saturating_add-bytes.ensures

pub returns : goal.returns
returns c =
    let e = measuring-end c.loop-entry.invariant (left-none c.args.listed _ c.loop-entry-test.false) in
    rw (← e)

use Rattle.blocks.proofs.LayLaws.{cue-room, cue-put, cue-none}
use Rattle.blocks.proofs.blocks.put_cue.Goals as goal

pub returns-then-key-clause-cues : goal.returns-then-key-clause-cues
returns-then-key-clause-cues c =
    let a = c.args in
    cue-put a.key a.c a.at a.cues.now c.if-key.true (cue-room a.key a.c a.at _ c.if-key.true c.requires.room)

pub returns-clause-cues : goal.returns-clause-cues
returns-clause-cues c = let a = c.args in (cue-none a.key a.c a.at a.cues.now c.if-key.false).0

use Rattle.std.proofs.Common.{◌∙◌, arith}
use Rattle.protocol.specs.Answers.{line, parted}
use Rattle.replay_lists.proofs.ToldListLaws.{unit_next, unit_end}
use Rattle.replay_lists.proofs.assembled.Slices.put_units.Goals as goal

pub loop-entry-preserved : goal.loop-entry-preserved
loop-entry-preserved c =
    let l = c.loop-entry in
    let s = c.args.self in
    let z = unit_next (parted (line l.answer) l.memory l.out_ends) s.units.pictures.now s.units.ends.now s.units.shows.now c.args.n l.entry c.loop-entry-test.true in
    let z = rw (← c.named.ensures, ← c.part-answer.ensures) at z in
    z ∙ l.invariant

pub returns : goal.returns
returns c =
    let l = c.loop-entry in
    unit_end _ _ _ _ c.args.n l.entry (omega arith) ∙ l.invariant

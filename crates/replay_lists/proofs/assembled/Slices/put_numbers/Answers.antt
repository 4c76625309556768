use Rattle.std.proofs.Common.{rules}
use Rattle.std.proofs.lemmas.List.{take_min}
use Rattle.protocol.proofs.AnswerLaws.{tells_then}
use Rattle.replay_lists.proofs.assembled.Slices.put_numbers.Goals as goal

pub returns : goal.returns
returns c =
    let count = rw (c.from.ensures, c.entry_count.ensures) at c.put.ensures in
    let cues = rw (c.min.ensures, take_min) at c.put_told.ensures in
    let list = rw (c.min-2.ensures, take_min) at c.put_told-2.ensures in
    let all = tells_then _ _ _ (tells_then _ _ _ (tells_then _ _ _ c.put_pair.ensures count) cues) list in
    search (rules, all)

use Rattle.std.proofs.Common.{◌≡◌, true, false, arith, rules}
use Rattle.blocks.specs.Numbers.{is_whole}
use Rattle.bench.proofs.BoardLaws.{unfit-many, unfit-part, fit}
use Rattle.bench.proofs.boards.assemble_numbers.Goals as goal
use Rattle.bench.proofs.boards.assemble_numbers.Goals.{then-count-gt-BOARDS-via-then-count-gt-BOARDS, then-count-gt-BOARDS-via-else-count-gt-BOARDS+then-not-is_whole}

pub returns-then-count-gt-BOARDS-clause-told : goal.returns-then-count-gt-BOARDS-clause-told
returns-then-count-gt-BOARDS-clause-told c =
    elim c.then-count-gt-BOARDS.branch [
      | then-count-gt-BOARDS-via-then-count-gt-BOARDS w ↦ unfit-many _ _ _ _ (omega (arith, w.if-count-gt-BOARDS.true))
      | then-count-gt-BOARDS-via-else-count-gt-BOARDS+then-not-is_whole w ↦
          let e : is_whole c.args.segments.now ≡ false = search rules in
          unfit-part _ _ _ _ (omega (arith, w.if-count-gt-BOARDS.false)) e
    ]

pub returns-in-Err-clause-told : goal.returns-in-Err-clause-told
returns-in-Err-clause-told c =
    let e : is_whole c.args.segments.now ≡ true = search rules in
    rw c.code_of.ensures
    (fit _ _ _ _ c.segment_count-count.ensures c.if-count-gt-BOARDS.false e _ c.boards_of-boards.ensures _ _ c.in-Err.ensures.handed)

pub returns-in-Ok-clause-told : goal.returns-in-Ok-clause-told
returns-in-Ok-clause-told c =
    let e : is_whole c.args.segments.now ≡ true = search rules in
    fit _ _ _ _ c.segment_count-count.ensures c.if-count-gt-BOARDS.false e _ c.boards_of-boards.ensures _ _ c.in-Ok.ensures.handed

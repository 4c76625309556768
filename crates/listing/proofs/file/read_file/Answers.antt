use Rattle.std.proofs.Common.{rules, arith, sym, ◌∙◌}
use Rattle.listing.proofs.FileLaws.{FileIs, some_whole, read_bad, read_full, read_whole, whole_records}
use Rattle.listing.proofs.file.read_file.Goals as goal
use Rattle.listing.proofs.file.read_file.Goals.{In_ok-layout}

pub returns-in_err-layout : goal.returns-in_err-layout
returns-in_err-layout c =
    let z = read_bad c.args.numbers.now c.args.file.now (sym c.in_err-layout.ensures.ok_part ∙ c.find.ensures) in
    search (rules, z)

whole : (c : In_ok-layout) → FileIs c.args.file.now c.in_ok-layout.layout
whole c = some_whole c.args.file.now _ (sym c.in_ok-layout.ensures.ok_part ∙ c.find.ensures)

pub returns-then-numbers-layout : goal.returns-then-numbers-layout
returns-then-numbers-layout c = let z = read_full c.args.numbers.now c.args.file.now (whole (goal.at.returns-then-numbers-layout c).In_ok-layout) c.if-numbers-layout.true in search (rules, z)

pub overflow_add-layout : goal.overflow_add-layout
overflow_add-layout c =
    let w = whole (goal.at.overflow_add-layout c).In_ok-layout in
    omega (arith, (whole_records c.args.numbers.now c.args.file.now w).there, w.small)

pub put_numbers-requires-clause-there : goal.put_numbers-requires-clause-there
put_numbers-requires-clause-there c = whole_records c.args.numbers.now c.args.file.now (whole (goal.at.put_numbers-requires-clause-there c).In_ok-layout)

pub returns : goal.returns
returns c =
    let z = read_whole c.args.numbers.now c.args.file.now (whole (goal.at.returns c).In_ok-layout) c.if-numbers-layout.false c.put_numbers.ensures in
    search (rules, z)

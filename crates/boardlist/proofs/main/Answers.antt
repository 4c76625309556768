use Rattle.std.proofs.Common.{◌≤◌, length, sym, arith}
use lib.Seq.{length-take-le}
use Rattle.listing.proofs.WroteLaws.{ends_within}
use Rattle.boardlist.proofs.main.Goals as goal
use Rattle.boardlist.proofs.main.Goals.{In-Ok}

within : (c : In-Ok) → c.in-Ok.end ≤ length c.answer.new.out
within c = omega (arith, ends_within _ _ _ c.in-Ok.ensures.text.answer)

pub slice_bounds-out-end : goal.slice_bounds-out-end
slice_bounds-out-end c = within c

pub slice_bounds-write_all-end : goal.slice_bounds-write_all-end
slice_bounds-write_all-end c = sym (length-take-le c.in-Ok.end c.answer.new.out (within (goal.at.slice_bounds-write_all-end c).In-Ok))

use Rattle.blocks.proofs.ListLaws.{Listing}
use Rattle.blocks.proofs.blocks.put_list.Given as goal

abbrev pub invariant-loop-i : goal.invariant-loop-i
invariant-loop-i l = Listing l.fn.list l.fn.cues l.gop l.segments l.list l.cues l.i l.at l.c

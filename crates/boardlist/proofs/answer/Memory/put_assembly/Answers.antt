use Rattle.std.proofs.Common.{refl}
use Rattle.boardlist.proofs.AnswerLaws.{assembly_made, retold, stopped_is}
use Rattle.boardlist.proofs.answer.Memory.put_assembly.Goals as goal

pub returns-in-Ok : goal.returns-in-Ok
returns-in-Ok c =
    let e = rw (c.picture.ensures, c.numbers.ensures) at c.in-Ok.ensures.handed in
    record { text = retold (assembly_made e) c.put_made.ensures; slices = e.lent; kept = refl }

pub returns-in-Err : goal.returns-in-Err
returns-in-Err c =
    let e = rw (c.picture.ensures, c.numbers.ensures) at c.in-Err.ensures.handed in
    let w = c.put_fault.ensures in
    record { text = retold (stopped_is _ _ _ e.answer) (record { answer = w.answer; bytes = w.out }); slices = e.lent; kept = refl }

use Rattle.std.proofs.Common.{◌∙◌}
use Rattle.listing.proofs.FileLaws.{layout_fits}
use Rattle.boardlist.specs.Printed.{lent_of}
use Rattle.boardlist.proofs.AnswerLaws.{retold, read_text, read_left, unread_is, unread_left}
use Rattle.boardlist.proofs.answer.Memory.answer.Goals as goal

pub put_assembly-requires : goal.put_assembly-requires
put_assembly-requires c = layout_fits c.args.file.now c.args.self.now.numbers _ _ c.in-Ok.ensures.answer c.in-Ok.ensures.numbers

pub returns-in-Ok : goal.returns-in-Ok
returns-in-Ok c =
    let s = c.args.file.now in
    let m = c.args.self.now in
    let e = c.in-Ok.ensures in
    let w = c.put_assembly.ensures in
    record {
      text = retold (read_text s m.numbers (lent_of m) _ _ e.answer e.numbers) w.text;
      stored = w.kept ∙ e.numbers;
      slices = w.slices ∙ read_left s m.numbers (lent_of m) _ _ e.answer e.numbers;
    }

pub returns-in-Err : goal.returns-in-Err
returns-in-Err c =
    let s = c.args.file.now in
    let m = c.args.self.now in
    let e = c.in-Err.ensures in
    let w = c.put_unread.ensures in
    record {
      text = retold (unread_is s m.numbers (lent_of m) c.in-Err.unread e.answer) (record { answer = w.answer; bytes = w.out });
      stored = e.numbers;
      slices = unread_left s m.numbers (lent_of m) c.in-Err.unread e.answer;
    }

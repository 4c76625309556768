use Rattle.listing.specs.Text.{bad_file}
use Rattle.listing.proofs.WroteLaws.{wrote, all_placed, all_lent}
use Rattle.listing.proofs.text.put_unread.Goals as goal

pub returns-in-Bad-2 : goal.returns-in-Bad-2
returns-in-Bad-2 c =
    let w = wrote c.put_bytes.ensures in
    let d = c.args.out.now in
    rw c.in-Bad-2.is (record { answer = all_placed d bad_file w c.if-out-lt9.false; out = all_lent d bad_file w c.if-out-lt9.false })

use Rattle.std.proofs.Common.{arith, length, ◌≤◌, ◌<◌}
use Rattle.listing.specs.Text.{refused_text}
use Rattle.listing.proofs.WroteLaws.{all_placed, all_lent, none_placed, none_lent}
use Rattle.listing.proofs.TextLaws.{refused_length}
use Rattle.listing.proofs.text.put_refused.Goals as goal

pub returns-then-out-decimal_len : goal.returns-then-out-decimal_len
returns-then-out-decimal_len c =
    let d = c.args.out.now in
    let t = refused_text c.from-n.result in
    let h : length d < length t = omega (arith, refused_length c.from-n.result, c.decimal_len.ensures.0, c.if-out-decimal_len.true) in
    rw (← c.from-n.ensures) (record { answer = none_placed d t h; out = none_lent d t h })

pub returns : goal.returns
returns c =
    let d = c.args.out.now in
    let t = refused_text c.from-n.result in
    let h : length t ≤ length d = omega (arith, refused_length c.from-n.result, c.decimal_len.ensures.0, c.if-out-decimal_len.false) in
    rw (← c.from-n.ensures) (record { answer = all_placed d t c.put_counted.ensures h; out = all_lent d t c.put_counted.ensures h })

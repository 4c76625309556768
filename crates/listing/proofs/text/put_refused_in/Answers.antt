use Rattle.std.proofs.Common.{arith, length, ◌≤◌, ◌<◌}
use Rattle.listing.specs.Text.{refused_in_text}
use Rattle.listing.proofs.WroteLaws.{all_placed, all_lent, none_placed, none_lent}
use Rattle.listing.proofs.TextLaws.{refused_in_length, refused_in_wrote}
use Rattle.listing.proofs.text.put_refused_in.Goals as goal

pub returns-then-out-decimal_len : goal.returns-then-out-decimal_len
returns-then-out-decimal_len c =
    let d = c.args.out.now in
    let i = c.args.segment in
    let t = refused_in_text c.from-n.result i in
    let e = refused_in_length c.from-n.result i in
    let h : length d < length t = omega (arith, e, c.decimal_len.ensures.0, c.decimal_len-2.ensures.0, c.if-out-decimal_len.true) in
    rw (← c.from-n.ensures) (record { answer = none_placed d t h; out = none_lent d t h })

pub returns : goal.returns
returns c =
    let d = c.args.out.now in
    let i = c.args.segment in
    let t = refused_in_text c.from-n.result i in
    let e = refused_in_length c.from-n.result i in
    let h : length t ≤ length d = omega (arith, e, c.decimal_len.ensures.0, c.decimal_len-2.ensures.0, c.if-out-decimal_len.false) in
    let w = refused_in_wrote c.from-n.result i h c.put_counted-to.ensures c.put_counted.ensures in
    rw (← c.from-n.ensures) (record { answer = all_placed d t w h; out = all_lent d t w h })

use Rattle.std.proofs.Common.{arith, length, sym, ◌∙◌, ◌≤◌, ◌<◌}
use borrow.Author.Tests.{leb-true, leb-false}
use Rattle.listing.specs.Text.{listing_in}
use Rattle.listing.proofs.WroteLaws.{all_placed, all_lent, none_placed, none_lent}
use Rattle.listing.proofs.TextLaws.{listing_length, listing_wrote}
use Rattle.listing.proofs.text.put_listing.Goals as goal
use Rattle.listing.proofs.text.put_listing.Goals.{then-out-head-via-then-out-head, then-out-head-via-else-out-head+then-not-lines_fit}

pub returns-then-out-head : goal.returns-then-out-head
returns-then-out-head c =
    let d = c.args.out.now in
    let t = listing_in c.args.cues c.args.units in
    let e = listing_length c.args.cues c.args.units in
    let h : length d < length t =
    elim c.then-out-head.branch [
      | then-out-head-via-then-out-head w ↦ omega (arith, e, c.decimal_len.ensures.0, c.decimal_len-2.ensures.0, w.if-out-head.true)
      | then-out-head-via-else-out-head+then-not-lines_fit w ↦
          let f = leb-false _ _ (sym w.lines_fit.ensures ∙ w.if-not-lines_fit.true) in
          omega (arith, e, f, c.decimal_len.ensures.0, c.decimal_len-2.ensures.0, w.if-out-head.false)
    ] in
    record { answer = none_placed d t h; out = none_lent d t h }

pub returns : goal.returns
returns c =
    let d = c.args.out.now in
    let t = listing_in c.args.cues c.args.units in
    let e = listing_length c.args.cues c.args.units in
    let f = leb-true _ _ (sym c.lines_fit.ensures ∙ c.if-not-lines_fit.false) in
    let h : length t ≤ length d = omega (arith, e, f, c.decimal_len.ensures.0, c.decimal_len-2.ensures.0, c.if-out-head.false) in
    let w = listing_wrote c.args.cues c.args.units h c.put_counted-to.ensures c.put_counted-to-2.ensures c.put_lines.ensures in
    record { answer = all_placed d t w h; out = all_lent d t w h }

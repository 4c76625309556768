use Rattle.listing.proofs.WroteLaws.{wrote}
use Rattle.listing.proofs.TextLaws.{line_wrote}
use Rattle.listing.proofs.text.put_line.Goals as goal

pub returns : goal.returns
returns c =
    let w₂ = rw c.letter_of.ensures at (wrote c.put_bytes-segment.ensures) in
    let w₅ = rw c.named.ensures at c.put_field.ensures in
    line_wrote c.args.units c.args.position c.args.entry c.requires c.put_field-kind.ensures w₂ (rw c.from.ensures at c.put_field-slot.ensures) c.put_slot-last.ensures w₅

use Rattle.std.proofs.Common.{arith}
use Rattle.bitio.proofs.LentLaws.{wrote-more}
use Rattle.listing.proofs.WroteLaws.{wrote}
use Rattle.listing.proofs.TextLaws.{length_counted}
use Rattle.listing.proofs.decimal.put_counted.Goals as goal

pub returns : goal.returns
returns c = wrote-more (wrote c.put_bytes-to.ensures) (omega (arith, length_counted c.args.word.now c.args.v c.args.last, c.requires)) c.put_field.ensures

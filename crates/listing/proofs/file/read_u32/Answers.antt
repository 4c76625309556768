use Rattle.std.proofs.Common.{ap, ◌∙◌}
use Rattle.std.specs.Int.{w32, from_le_bytes}
use Rattle.listing.proofs.NumberLaws.{u32_bytes}
use Rattle.listing.proofs.file.read_u32.Goals as goal

pub returns : goal.returns
returns c = c.from_le_bytes.ensures ∙ ap (from_le_bytes w32) c.bytes_at.ensures ∙ u32_bytes c.args.file.now c.args.at

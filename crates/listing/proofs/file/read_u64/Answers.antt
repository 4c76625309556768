use Rattle.std.proofs.Common.{ap, ◌∙◌}
use Rattle.std.specs.Int.{w64, from_le_bytes}
use Rattle.listing.proofs.NumberLaws.{u64_bytes}
use Rattle.listing.proofs.file.read_u64.Goals as goal

pub returns : goal.returns
returns c = c.from_le_bytes.ensures ∙ ap (from_le_bytes w64) c.bytes_at.ensures ∙ u64_bytes c.args.file.now c.args.at

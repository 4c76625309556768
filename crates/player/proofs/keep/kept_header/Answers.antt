use Rattle.std.proofs.Common.{rules}
use Rattle.player.proofs.KeepLaws.{header-kept}
use Rattle.player.proofs.keep.kept_header.Goals as goal

pub returns : goal.returns
returns c = header-kept _ c.read_supported.result c.map.result c.read_supported.ensures (search rules)

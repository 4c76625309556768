use mathlib.Core.Path.{refl}
use Rattle.obu.proofs.WriteLaws.{copied-there}
use Rattle.obu.proofs.writer.put_bytes.Goals as goal

pub returns : goal.returns
returns c = (refl, copied-there _ _ _ c.copy_from_slice.ensures.after)

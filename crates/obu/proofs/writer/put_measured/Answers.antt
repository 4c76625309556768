use Rattle.std.proofs.Common.{arith}
use Rattle.obu.proofs.ObuLaws.{passes-small}
use Rattle.obu.proofs.WriteLaws.{obu-pasted}
use Rattle.obu.proofs.writer.put_measured.Goals as goal

pub put_header-p-requires : goal.put_header-p-requires
put_header-p-requires c = (passes-small _ c.requires.0, omega arith, omega arith)

pub returns : goal.returns
returns c =
    let w = c.put_bytes.ensures in
    let v = c.put_leb128-q.ensures in
    let u = c.put_header-p.ensures in
    (omega arith, obu-pasted _ _ _ _ _ (omega arith) u.1 u.0 (omega arith) v.1 v.0 w.1)

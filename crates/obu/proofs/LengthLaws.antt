-- Laws of the length of written OBUs.
use Prim.Native.Nat.{◌+◌}
use native.Mathlib.Omega.{arith}
use mathlib.Core.Path.{◌≡◌}
use mathlib.Core.List.{◌++◌}
use lib.ListN.{length, length-append}
use Rattle.bitio.specs.Leb.{leb_bytes, framed}
use Rattle.obu.specs.Obu.{Obu, ext_bytes, obu_bytes}

-- an OBU in written form: the header, the extension, the size and the payload
pub obu-length : (o : Obu) → length (obu_bytes o) ≡ 1 + length (ext_bytes o.ext) + length (leb_bytes (length o.payload)) + length o.payload
unfolding obu_bytes framed
obu-length o =
    let n = length-append (ext_bytes o.ext) (leb_bytes (length o.payload) ++ o.payload) in
    let m = length-append (leb_bytes (length o.payload)) o.payload in
    omega arith

-- Units with their sequence headers replaced.
use Rattle.std.specs.Prelude.{ℕ, List, [], map}
use Rattle.obu.specs.Obu.{Obu, obus, unit_bytes}
use Rattle.obu.specs.Place.{part, extension_says}
use Rattle.obu.specs.Unit.{of_unit}
use Rattle.obu.specs.declared.reader.Obu.{Obu as Found}
use Rattle.pictures.specs.Prepare.{renewed}

-- an OBU that was found in s
abbrev pub obu_in : List ℕ → Found → Obu
obu_in s o = record { type = o.obu_type; ext = extension_says o.extension; payload = part s o.start o.end }

-- 01, timing absent: OBUs, the payload of each sequence header replaced, in written form
unfoldable pub renewed_bytes : List ℕ → List Obu → List ℕ
renewed_bytes new os = unit_bytes (map (renewed new) os)

-- the same of a unit; one that is refused has no bytes
unfoldable pub rewritten : List ℕ → List ℕ → List ℕ
rewritten new u = of_unit [] (renewed_bytes new) (obus u)

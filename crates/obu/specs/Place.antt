-- The OBU at a position of lent bytes.
use Rattle.std.specs.Prelude.{ℕ, ◌-◌, List, [], ◌∷◌, cond as pick, length, get_or, drop, leb, ltb}
use Rattle.std.proofs.Math.Option.{Option, none, some}
use Rattle.std.specs.Prelude.{Option as Optional, Some, None, Result, Ok, Err}
use Rattle.bitio.specs.Parse.{Head, stop, item}
use Rattle.bitio.specs.Lent.{span}
use Rattle.obu.specs.Obu.{Obu, head_obu}
use Rattle.bitio.specs.Refusal.{number}
use Rattle.bitio.specs.declared.refusal.Refusal.{Refusal}
use Rattle.obu.specs.declared.reader.Obu.{Obu as Found}

-- what stands at a position: nothing more, a refusal, or an OBU whose payload lies from start to end, where the next OBU starts
pub data Place : Type 0 where
  no_more : Place
  wrong : ℕ → Place
  lies : (type : ℕ) (ext : Option ℕ) (start end : ℕ) → Place

-- s is the whole of the bytes
abbrev pub place_of : List ℕ → Head Obu → Place
place_of s (stop k) = wrong k
place_of s (item o r) = lies o.type o.ext (length s - length r - length o.payload) (length s - length r)

unfoldable pub obu_place : List ℕ → ℕ → Place
obu_place s at = pick (ltb at (length s)) (place_of s (head_obu (drop at s))) no_more

abbrev pub extension_says : Optional ℕ → Option ℕ
extension_says None = none
extension_says (Some e) = some e

-- the place of what the code found
abbrev pub found_says : Result Found Refusal → Place
found_says (Ok o) = lies o.obu_type (extension_says o.extension) o.start o.end
found_says (Err e) = wrong (number e)

-- the same where nothing more may stand there
abbrev pub obu_says : Result (Optional Found) Refusal → Place
obu_says (Ok (Some o)) = lies o.obu_type (extension_says o.extension) o.start o.end
obu_says (Ok None) = no_more
obu_says (Err e) = wrong (number e)

-- the bytes from a to e, or none where they are not there
unfoldable pub part : List ℕ → ℕ → ℕ → List ℕ
part s a e = pick (leb a e) (pick (leb e (length s)) (span s a e) []) []

-- part i of bytes whose parts lie one behind the other, each with its end in es
abbrev pub part_in : List ℕ → List ℕ → ℕ → List ℕ
part_in s es i = part s (get_or (0 ∷ es) i 0) (get_or es i 0)

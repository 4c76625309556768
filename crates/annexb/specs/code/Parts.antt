-- The sized parts of Annex B, as the code finds them at the head of bytes and walks over them.
use Rattle.std.specs.Prelude.{ℕ, ◌≡◌, List, length, Option, Some, None, Result, Ok, Err}
use Rattle.std.specs.Borrow.{Bor}
use Rattle.std.specs.Iterator.{Count, at_most}
use Rattle.bitio.specs.Parse.{Answer, refused, accepted, Head, stop, item}
use Rattle.bitio.specs.Leb.{sized}
use Rattle.bitio.specs.Refusal.{number}
use Rattle.bitio.specs.declared.refusal.Refusal.{Refusal}
use Rattle.obu.specs.Obu.{Obu}
use Rattle.obu.specs.Place.{extension_says}
use Rattle.obu.specs.Write.{obu}
use Rattle.annexb.specs.declared.annexb.part.Inner.{Inner}
use Rattle.annexb.specs.declared.annexb.parts.Parts.{Parts}

-- the part that was found, and what follows it
abbrev pub part_says : Result (Bor (List ℕ) × Bor (List ℕ)) Refusal → Head (List ℕ)
part_says (Ok (p, r)) = item p.now r.now
part_says (Err e) = stop (number e)

-- the OBU that was found
abbrev pub obu_of : Inner → Obu
obu_of o = obu o.obu_type (extension_says o.extension) o.payload.now

abbrev pub inner_says : Result Inner Refusal → Answer Obu
inner_says (Ok o) = accepted (obu_of o)
inner_says (Err e) = refused (number e)

-- the same, and what follows it
abbrev pub obu_says : Result (Inner × Bor (List ℕ)) Refusal → Head Obu
obu_says (Ok (o, r)) = item (obu_of o) r.now
obu_says (Err e) = stop (number e)

-- the first part of what is left, if there is one
abbrev pub GivesPart : Parts → Option (Bor (List ℕ)) → Parts → Type 0
GivesPart old None new = (k : ℕ) × (sized 6 7 old.rest.now ≡ stop k) × (new.rest.now ≡ old.rest.now)
GivesPart old (Some p) new = sized 6 7 old.rest.now ≡ item p.now new.rest.now

-- each part has at least a byte before it
abbrev pub bytes_left : Parts → Count
bytes_left it = at_most (length it.rest.now)

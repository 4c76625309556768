-- The requests: what each asks for, what it is answered, and what it is lent (docs/FORMATS.md has the same table).
use Rattle.std.specs.Prelude.{ℕ, List, [], ◌∷◌, true, false, cond as pick, Option, Some, None}
use Rattle.std.specs.List.{find}
use Rattle.std.specs.Str.{bytes_eq}
use Prim.Native.String.{String}
use Rattle.protocol.specs.Text.{ascii}
use Rattle.protocol.specs.Kinds.{Form, form, just, any, then_any, plain, after_colon, after_comma}
use Rattle.protocol.specs.declared.kinds.Kind.TheVariants.{Bytes, Number, Number32, Byte, OptionalByte, Count, Named, Told}
use Rattle.protocol.specs.declared.lent.Shares.{Shares}
use Rattle.protocol.specs.declared.lent.Share.TheVariants.{Nothing, Few, All}
use Rattle.replay_requests.specs.declared.rows.Operation.{Operation}
use Rattle.replay_requests.specs.declared.rows.Operation.TheVariants as Op
use Rattle.replay_requests.specs.declared.rows.Row.{Row as CodeRow}

pub record Row : Type 0 where
  pub operation : Operation
  pub asks : Form
  pub answers : Form
  pub lends : Shares

abbrev pub row : CodeRow → Row
row r = record { operation = r.operation; asks = form r.asks; answers = form r.answers; lends = r.lends }

abbrev pub named_row : CodeRow → List ℕ × Row
named_row r = (r.name.now, row r)

-- what each sort of request is lent: nothing but memory of its own; bytes, few or all; ends too; numbers too; all and its own
abbrev pub own : Shares
own = record { is_own = true; bytes = Nothing; ends = Nothing; numbers = Nothing }

abbrev pub few_bytes : Shares
few_bytes = record { is_own = false; bytes = Few; ends = Nothing; numbers = Nothing }

abbrev pub all_bytes : Shares
all_bytes = record { is_own = false; bytes = All; ends = Nothing; numbers = Nothing }

abbrev pub bytes_and_ends : Shares
bytes_and_ends = record { is_own = false; bytes = All; ends = All; numbers = Nothing }

abbrev pub all_three : Shares
all_three = record { is_own = false; bytes = All; ends = All; numbers = All }

abbrev pub all_and_own : Shares
all_and_own = record { is_own = true; bytes = All; ends = All; numbers = All }

abbrev pub named : String → Operation → (asks answers : Form) → Shares → List ℕ × Row
named name o f g l = (ascii name, record { operation = o; asks = f; answers = g; lends = l })

abbrev pub rows : List (List ℕ × Row)
rows =
    named "bits" Op.Bits (just (plain Bytes ∷ plain Number ∷ plain Number ∷ [])) (just (plain Number ∷ plain Number ∷ [])) own
    ∷ named "uvlc" Op.Uvlc (just (plain Bytes ∷ plain Number ∷ [])) (just (plain Number ∷ plain Number ∷ [])) own
    ∷ named "leb" Op.Leb (just (plain Bytes ∷ [])) (just (plain Number ∷ plain Number ∷ [])) own
    ∷ named "lebput" Op.Lebput (just (plain Number ∷ [])) (just (plain Bytes ∷ [])) few_bytes
    ∷ named "obus" Op.Obus (just (plain Bytes ∷ [])) (then_any (plain Number ∷ []) (plain Number ∷ after_colon OptionalByte ∷ after_colon Bytes ∷ [])) own
    ∷ named "obuput" Op.Obuput (just (plain Byte ∷ plain OptionalByte ∷ plain Bytes ∷ [])) (just (plain Bytes ∷ [])) all_bytes
    ∷ named "seq" Op.Seq (just (plain Bytes ∷ [])) (then_any (plain Number ∷ []) (after_comma Number ∷ [])) own
    ∷ named "support" Op.Support (just (plain Bytes ∷ [])) (just []) own
    ∷ named "emit" Op.Emit (just (plain Bytes ∷ [])) (just (plain Bytes ∷ [])) few_bytes
    ∷ named "timed" Op.Timed (just (plain Bytes ∷ plain Number32 ∷ plain Number32 ∷ [])) (just (plain Bytes ∷ [])) few_bytes
    ∷ named "frame" Op.Frame (just (plain Bytes ∷ plain Bytes ∷ [])) (any (plain Number ∷ [])) own
    ∷ named "stream" Op.Stream (just (plain Bytes ∷ [])) (then_any (plain Count ∷ []) (plain Bytes ∷ [])) bytes_and_ends
    ∷ named "annexb" Op.Annexb (just (plain Bytes ∷ [])) (then_any (plain Count ∷ []) (plain Bytes ∷ [])) bytes_and_ends
    ∷ named "wstream" Op.Wstream (any (plain Bytes ∷ [])) (just (plain Bytes ∷ [])) all_bytes
    ∷ named "wannexb" Op.Wannexb (any (plain Bytes ∷ [])) (just (plain Bytes ∷ [])) all_bytes
    ∷ named "canon" Op.Canon (just (plain Bytes ∷ [])) (just (plain Bytes ∷ [])) all_bytes
    ∷ named "packets" Op.Packets (any (plain Number ∷ plain Bytes ∷ [])) (then_any (plain Count ∷ []) (plain Number ∷ plain Bytes ∷ [])) all_three
    ∷ named "assemble" Op.Assemble (then_any (plain Number ∷ plain Number32 ∷ plain Number32 ∷ []) (plain Bytes ∷ plain Bytes ∷ plain Number ∷ [])) (then_any (plain Number ∷ plain Number ∷ plain Named ∷ []) (plain Told ∷ [])) all_and_own
    ∷ named "play" Op.Play (any (plain Number ∷ after_colon Bytes ∷ [])) (any (plain Told ∷ [])) own
    ∷ named "scan" Op.Scan (then_any (plain Bytes ∷ []) (plain Bytes ∷ [])) (any (plain Told ∷ [])) own
    ∷ named "slot" Op.Slot (just (plain Byte ∷ [])) (just (plain Number ∷ [])) own
    ∷ []

-- what stands under a name
abbrev pub found : {A : Type 0} → List ℕ → List (List ℕ × A) → Option A
found name [] = None
found name (x ∷ table) = pick (bytes_eq x.0 name) (Some x.1) (found name table)

-- the first of the code's rows under a name
unfoldable pub first_row : List ℕ → List CodeRow → Option CodeRow
first_row name rs = find (λ (r : CodeRow). bytes_eq r.name.now name) rs

unfoldable pub row_of : List ℕ → Option Row
row_of name = found name rows

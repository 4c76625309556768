-- A line as a request: its name's row, its fields, and what it is lent.
use Rattle.std.specs.Prelude.{ℕ, ◌+◌, min, List, [], Bool, true, false, ◌&&◌, Option, Some, None, Result, Ok, Err, cond as pick, length, take, eqb}
use Rattle.std.specs.Result.{result_map_both}
use Rattle.protocol.specs.Text.{word_at}
use Rattle.protocol.specs.Kinds.{Form, form, just}
use Rattle.protocol.specs.Room.{room_prefix, lent_by, is_there}
use Rattle.protocol.specs.Fields.{Place, place, FieldsRead, fields_of}
use Rattle.protocol.specs.declared.lent.Room.{Room}
use Rattle.protocol.specs.declared.lent.Prefix.{Prefix}
use Rattle.protocol.specs.declared.lent.Lent.{Lent}
use Rattle.protocol.specs.declared.memory.Memory.{Memory}
use Rattle.replay_requests.specs.Rows.{Row, row_of}
use Rattle.replay_requests.specs.declared.rows.Operation.{Operation}
use Rattle.replay_requests.specs.declared.requests.Request.{Request}
use Rattle.replay_requests.specs.declared.requests.Unread.{Unread}

-- an operation on the fields read, how its answer is printed, and what it is lent
pub record Asked : Type 0 where
  pub operation : Operation
  pub fields : Place
  pub format : Form
  pub lent : Lent

abbrev pub asked : Request → Asked
asked r = record { operation = r.operation; fields = place r.fields; format = form r.format; lent = r.lent }

-- a line that is no request: its name, its fields so far, how an answer would be printed, and what it would be lent
pub record Unasked : Type 0 where
  pub name : List ℕ
  pub fields : Place
  pub format : Form
  pub lent : Lent

abbrev pub unasked : Unread → Unasked
unasked u = record { name = u.name.now; fields = place u.fields; format = form u.format; lent = u.lent }

-- either, and the memory that its fields went to
pub record Requested : Type 0 where
  pub request : Result Asked Unasked
  pub decoded : List ℕ
  pub ends : List ℕ
  pub numbers : List ℕ

abbrev pub requested : Result Request Unread → (decoded ends numbers : List ℕ) → Requested
requested r d es ns = record { request = result_map_both asked unasked r; decoded = d; ends = es; numbers = ns }

-- into memory of the code
abbrev pub requested_in : Result Request Unread → Memory → Requested
requested_in r m = requested r m.bytes.now m.ends.now m.numbers.now

abbrev pub no_request : List ℕ → Form → Lent → Place → Result Asked Unasked
no_request w g l p = Err (record { name = w; fields = p; format = g; lent = l })

-- the fields that were read, and whether they are all
abbrev pub so_far : Result Place Place → Place × Bool
so_far (Ok p) = (p, true)
so_far (Err p) = (p, false)

-- all fields are good, the line was kept whole, and no more is lent than there is
abbrev pub asked_by : Bool → List ℕ → Row → Lent → Place × Bool → Result Asked Unasked
asked_by whole w r l p =
    pick (p.1 && (whole && is_there l)) (Ok (record { operation = r.operation; fields = p.0; format = r.answers; lent = l })) (
    no_request w r.answers l p.0)

-- a name that is none's asks for no kind of field, and is lent nothing
abbrev pub named_by : Bool → List ℕ → Option Row → Option Room → Place × Bool → Result Asked Unasked
named_by whole w None room p = no_request w (just []) (record { is_own = false; bytes = 0; ends = 0; numbers = 0 }) p.0
named_by whole w (Some r) room p = asked_by whole w r (lent_by r.lends room) p

abbrev pub fields_asked : Option Row → Form
fields_asked None = just []
fields_asked (Some r) = r.asks

abbrev pub requested_by : Bool → List ℕ → Option Row → Option Room → FieldsRead → Requested
requested_by whole w r room t = record { request = named_by whole w r room (so_far t.fields); decoded = t.decoded; ends = t.ends; numbers = t.numbers }

-- the fields behind the name, which stands at x.1
abbrev pub request_at : Bool → List ℕ → Option Room × ℕ → (decoded ends numbers : List ℕ) → Requested
request_at whole s x d es ns =
    let w = word_at 32 s x.1 in
    requested_by whole w (row_of w) x.0 (fields_of s (x.1 + length w + 1) (fields_asked (row_of w)) d es ns)

-- what the prefix lends, and where the name starts: at the line's end behind a bad one
abbrev pub start_of : List ℕ → Result Prefix Room → Option Room × ℕ
start_of s (Err room) = (None, length s)
start_of s (Ok p) = (p.room, min p.next (length s))

unfoldable pub request_in : Bool → List ℕ → (decoded ends numbers : List ℕ) → Requested
request_in whole s d es ns = request_at whole s (start_of s (room_prefix s)) d es ns

-- of what was kept of a line of n characters: of one that was too long, not all
unfoldable pub request_of : ℕ → List ℕ → (decoded ends numbers : List ℕ) → Requested
request_of n kept d es ns = request_in (eqb (min n (length kept)) n) (take (min n (length kept)) kept) d es ns

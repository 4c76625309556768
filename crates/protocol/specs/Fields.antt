-- The fields of a line, each of the kind that its request asks for.
use Rattle.std.specs.Prelude.{ℕ, zero, suc, ◌+◌, ◌-◌, ◌%◌, ◌^◌, List, Bool, true, false, ◌&&◌, cond as pick, Option, Some, None, Result, Ok, Err, length, set, leb, ltb, eqb}
use Rattle.std.specs.Option.{option_and_then}
use Rattle.std.specs.Result.{result_map_both}
use Rattle.std.specs.Str.{bytes_eq}
use Rattle.protocol.specs.Text.{ascii, byte_string, decoded_to, decoded_in, read_number, word_at}
use Rattle.protocol.specs.Kinds.{no_byte, largest_of, Form, form, split_of, stop_of}
use Rattle.protocol.specs.declared.kinds.Kind.{Kind}
use Rattle.protocol.specs.declared.kinds.Kind.TheVariants.{Bytes, OptionalByte}
use Rattle.protocol.specs.declared.kinds.Item.{Item}
use Rattle.protocol.specs.declared.fields.Fields.{Fields}
use Rattle.protocol.specs.declared.memory.Memory.{Memory}

-- how far the fields of a line have been read: where the next starts, the kinds that follow, and how many bytes, byte strings
-- and numbers there are
pub record Place : Type 0 where
  pub next : ℕ
  pub format : Form
  pub bytes : ℕ
  pub ends : ℕ
  pub numbers : ℕ

abbrev pub place : Fields → Place
place f = record { next = f.next; format = form f.format; bytes = f.bytes; ends = f.ends; numbers = f.numbers }

-- the same, an error once a field was bad, and the memory that fields go to
pub record FieldsRead : Type 0 where
  pub fields : Result Place Place
  pub decoded : List ℕ
  pub ends : List ℕ
  pub numbers : List ℕ

abbrev pub fields_read : Result Fields Fields → (decoded ends numbers : List ℕ) → FieldsRead
fields_read f d es ns = record { fields = result_map_both place place f; decoded = d; ends = es; numbers = ns }

-- into memory of the code
abbrev pub read_into : Result Fields Fields → Memory → FieldsRead
read_into f m = fields_read f m.bytes.now m.ends.now m.numbers.now

-- ---- one field

-- behind a bad one: nothing more is read
abbrev pub spoiled_of : Place → Place
spoiled_of p = record { next = 2 ^ 64 - 1; format = p.format; bytes = p.bytes; ends = p.ends; numbers = p.numbers }

-- a byte string that ends at e, as one more of those whose ends are es
abbrev pub with_bytes : Place → (d es ns : List ℕ) → Option ℕ → FieldsRead
with_bytes p d es ns None = record { fields = Err (spoiled_of p); decoded = d; ends = es; numbers = ns }
with_bytes p d es ns (Some e) =
    pick (ltb p.ends (length es))
    (record {
      fields = Ok (record { next = p.next; format = p.format; bytes = e; ends = p.ends + 1; numbers = p.numbers });
      decoded = d;
      ends = set es p.ends (e % 2 ^ 32);
      numbers = ns;
    })
    (record { fields = Err (spoiled_of p); decoded = d; ends = es; numbers = ns })

-- the word w as a byte string, put behind those before it
unfoldable pub bytes_field : Place → (d es ns : List ℕ) → List ℕ → FieldsRead
bytes_field p d es ns w = with_bytes p (decoded_in d p.bytes (byte_string w)) es ns (decoded_to d p.bytes (byte_string w))

abbrev pub is_optional : Kind → Bool
is_optional OptionalByte = true
is_optional _ = false

abbrev pub up_to : ℕ → ℕ → Option ℕ
up_to most v = pick (leb v most) (Some v) None

-- what the word w is as a number of a kind
unfoldable pub value_of : Kind → List ℕ → Option ℕ
value_of kind w =
    pick (is_optional kind && bytes_eq w (ascii "-")) (Some no_byte)
    (option_and_then (λ most. option_and_then (up_to most) (read_number w)) (largest_of kind))

abbrev pub with_number : Place → (d es ns : List ℕ) → Option ℕ → FieldsRead
with_number p d es ns None = record { fields = Err (spoiled_of p); decoded = d; ends = es; numbers = ns }
with_number p d es ns (Some v) =
    pick (ltb p.numbers (length ns))
    (record {
      fields = Ok (record { next = p.next; format = p.format; bytes = p.bytes; ends = p.ends; numbers = p.numbers + 1 });
      decoded = d;
      ends = es;
      numbers = set ns p.numbers v;
    })
    (record { fields = Err (spoiled_of p); decoded = d; ends = es; numbers = ns })

-- the word w as a number
unfoldable pub value_field : Place → (d es ns : List ℕ) → Kind → List ℕ → FieldsRead
value_field p d es ns kind w = with_number p d es ns (value_of kind w)

-- ---- all fields

-- the word w as a field of a kind
abbrev pub field_from : Place → (d es ns : List ℕ) → Kind → List ℕ → FieldsRead
field_from p d es ns Bytes w = bytes_field p d es ns w
field_from p d es ns kind w = value_field p d es ns kind w

-- the next field starts at n, and is of the first kind of f
abbrev pub behind : Place → ℕ → Form → Place
behind p n f = record { next = n; format = f; bytes = p.bytes; ends = p.ends; numbers = p.numbers }

-- a field of the kind of i, before those of f: it ends at what stands before the next
abbrev pub field_at : List ℕ → Place → (d es ns : List ℕ) → Option (Item × Form) → FieldsRead
field_at s p d es ns None = record { fields = Err (spoiled_of p); decoded = d; ends = es; numbers = ns }
field_at s p d es ns (Some x) =
    let w = word_at (stop_of x.1) s p.next in
    field_from (behind p (p.next + length w + 1) x.1) d es ns x.0.kind w

-- one field more, if one is left
unfoldable pub field_of : List ℕ → Place → (d es ns : List ℕ) → FieldsRead
field_of s p d es ns =
    pick (ltb (length s) p.next) (record { fields = Ok p; decoded = d; ends = es; numbers = ns })
    (field_at s p d es ns (split_of p.format))

-- the same, if none before it was bad
abbrev pub field_after : List ℕ → Result Place Place → (d es ns : List ℕ) → FieldsRead
field_after s (Err p) d es ns = record { fields = Err p; decoded = d; ends = es; numbers = ns }
field_after s (Ok p) d es ns = field_of s p d es ns

-- k fields more
unfoldable pub fields_in : ℕ → List ℕ → FieldsRead → FieldsRead
fields_in zero s t = t
fields_in (suc k) s t = fields_in k s (field_after s t.fields t.decoded t.ends t.numbers)

-- every field was read and was good, and none is missing
abbrev pub is_all_of : Place → List ℕ → Bool
is_all_of p s = eqb p.next (length s + 1) && eqb (length p.format.items) 0

abbrev pub all_of : List ℕ → Result Place Place → Result Place Place
all_of s (Err p) = Err p
all_of s (Ok p) = pick (is_all_of p s) (Ok p) (Err p)

abbrev pub all_read : List ℕ → FieldsRead → FieldsRead
all_read s t = record { fields = all_of s t.fields; decoded = t.decoded; ends = t.ends; numbers = t.numbers }

abbrev pub start_of : ℕ → Form → Place
start_of n f = record { next = n; format = f; bytes = 0; ends = 0; numbers = 0 }

-- all fields from n on: there are fewer of them than characters
abbrev pub fields_of : List ℕ → ℕ → Form → (decoded ends numbers : List ℕ) → FieldsRead
fields_of s n f d es ns = all_read s (fields_in (length s) s (record { fields = Ok (start_of n f); decoded = d; ends = es; numbers = ns }))

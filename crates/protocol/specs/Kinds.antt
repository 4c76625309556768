-- What fields and printed items are (src/kinds.rt), and what stands before each.
use Rattle.std.specs.Prelude.{ℕ, ◌+◌, ◌-◌, ◌*◌, ◌/◌, ◌%◌, ◌^◌, List, [], ◌∷◌, cond as pick, Bool, true, false, Option, Some, None, eqb}
use Rattle.std.specs.Option.{option_map}
use Rattle.protocol.specs.declared.kinds.Kind.{Kind}
use Rattle.protocol.specs.declared.kinds.Kind.TheVariants.{Bytes, Number, Number32, Byte, OptionalByte, Count, Named, Refused, Told, Negative, Slots}
use Rattle.protocol.specs.declared.kinds.Before.{Before}
use Rattle.protocol.specs.declared.kinds.Before.TheVariants.{Space, Colon, Comma}
use Rattle.protocol.specs.declared.kinds.Item.{Item}
use Rattle.protocol.specs.declared.kinds.Format.{Format}

-- what an optional byte that is not given is read as
abbrev pub no_byte : ℕ
no_byte = 256

-- the largest number of a field of a kind
abbrev pub largest_of : Kind → Option ℕ
largest_of Number = Some (2 ^ 64 - 1)
largest_of Number32 = Some (2 ^ 32 - 1)
largest_of Byte = Some 255
largest_of OptionalByte = Some 255
largest_of _ = None

abbrev pub separator_of : Before → ℕ
separator_of Space = 32
separator_of Colon = 58
separator_of Comma = 44

-- of a kind, behind a space, a colon or a comma
abbrev pub plain : Kind → Item
plain kind = record { before = Space; kind = kind }

abbrev pub after_colon : Kind → Item
after_colon kind = record { before = Colon; kind = kind }

abbrev pub after_comma : Kind → Item
after_comma kind = record { before = Comma; kind = kind }

-- ---- items told among the numbers

abbrev pub kind_code : Kind → ℕ
kind_code Bytes = 1
kind_code Number = 2
kind_code Number32 = 3
kind_code Byte = 4
kind_code OptionalByte = 5
kind_code Count = 6
kind_code Named = 7
kind_code Refused = 8
kind_code Told = 9
kind_code Negative = 10
kind_code Slots = 11

abbrev pub before_code : Before → ℕ
before_code Space = 0
before_code Colon = 1
before_code Comma = 2

-- two hexadecimal digits
abbrev pub item_code : Item → ℕ
item_code i = 16 * before_code i.before + kind_code i.kind

-- the items of one number: the first in its lowest digits
abbrev pub packed : List Item → ℕ
packed [] = 0
packed (i ∷ is) = item_code i + 256 * packed is

-- and back; any other digit tells a number
unfoldable pub kind_of : ℕ → Kind
kind_of d =
    pick (eqb d 1) Bytes (pick (eqb d 5) OptionalByte (pick (eqb d 6) Count (pick (eqb d 7) Named (
    pick (eqb d 8) Refused (pick (eqb d 10) Negative (pick (eqb d 11) Slots Number))))))

unfoldable pub before_of : ℕ → Before
before_of d = pick (eqb d 1) Colon (pick (eqb d 2) Comma Space)

-- of the two lowest digits
abbrev pub item_of : ℕ → Item
item_of c = record { before = before_of (c / 16 % 16); kind = kind_of (c % 16) }

-- the kinds that come back from their digit: those of fields alone don't, nor what tells further items, which is read before
abbrev pub is_told : Kind → Bool
is_told Number32 = false
is_told Byte = false
is_told Told = false
is_told _ = true

-- ---- formats

-- items that follow each other, and those that may follow them any number of times
pub record Form : Type 0 where
  pub items : List Item
  pub repeated : List Item

abbrev pub form : Format → Form
form f = record { items = f.items.now; repeated = f.repeated.now }

-- these; any number of times these; these, and then those any number of times
abbrev pub just : List Item → Form
just is = record { items = is; repeated = [] }

abbrev pub any : List Item → Form
any rs = record { items = []; repeated = rs }

abbrev pub then_any : List Item → List Item → Form
then_any is rs = record { items = is; repeated = rs }

-- the first item, if there is one, and what follows it
abbrev pub split_items : List Item → List Item → Option (Item × Form)
split_items [] rs = None
split_items (i ∷ is) rs = Some (i, then_any is rs)

abbrev pub split_form : List Item → List Item → Option (Item × Form)
split_form [] rs = split_items rs rs
split_form (i ∷ is) rs = split_items (i ∷ is) rs

unfoldable pub split_of : Form → Option (Item × Form)
split_of f = split_form f.items f.repeated

abbrev pub split_said : Option (Item × Format) → Option (Item × Form)
split_said r = option_map (λ (x : Item × Format). (x.0, form x.1)) r

-- what stands before the first item
abbrev pub stop_by : Option (Item × Form) → ℕ
stop_by None = 32
stop_by (Some x) = separator_of x.0.before

abbrev pub stop_of : Form → ℕ
stop_of f = stop_by (split_of f)

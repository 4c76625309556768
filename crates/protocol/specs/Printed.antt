-- The line of an answer, from what the call left in the memory lent to it, in ASCII codes.
use Rattle.std.specs.Prelude.{ℕ, zero, suc, ◌+◌, ◌-◌, ◌/◌, ◌%◌, ◌^◌, List, [], ◌∷◌, ◌++◌, Bool, ◌&&◌, cond as pick, Option, Some, None, length, get_or, leb, ltb, eqb}
use Rattle.bitio.specs.Limits.{capped}
use Rattle.bitio.specs.Lent.{span}
use Rattle.protocol.specs.Answers.{Line, line}
use Rattle.protocol.specs.Kinds.{no_byte, plain, any, separator_of, item_code, item_of, Form, form, split_of}
use Rattle.protocol.specs.Marked.{is_clean}
use Rattle.protocol.specs.Text.{ascii}
use Rattle.protocol.specs.Told.{Told, told}
use Rattle.protocol.specs.Typed.{decimal_text, bytes_text}
use Rattle.protocol.specs.declared.kinds.Kind.{Kind}
use Rattle.protocol.specs.declared.kinds.Kind.TheVariants.{Bytes, Number, OptionalByte, Count, Named, Refused, Told as Tells, Negative, Slots}
use Rattle.protocol.specs.declared.kinds.Item.{Item}
use Rattle.protocol.specs.declared.printer.Printed.{Printed}
use Rattle.protocol.specs.declared.printer.Left.{Left}

-- what a call has left
abbrev pub left_told : Left → Told
left_told l = told (line l.answer) l.memory.now l.ends.now l.numbers.now

-- ---- one item

-- a part that does not lie in the bytes
abbrev pub dirty_text : List ℕ
dirty_text = ascii "dirty"

-- where part i ends: the last one with all the answer's bytes
abbrev pub part_end : Line → List ℕ → ℕ → ℕ
part_end a es i = pick (ltb i a.ends) (get_or es i 0) a.bytes

abbrev pub part_start : Line → List ℕ → ℕ → ℕ
part_start a es i = pick (eqb i 0) 0 (part_end a es (i - 1))

abbrev pub range_text : List ℕ → ℕ → ℕ → List ℕ
range_text s a e = pick (leb a e && leb e (length s)) (bytes_text (span s a e)) dirty_text

-- part i in hexadecimal
unfoldable pub part_text : Line → List ℕ → List ℕ → ℕ → List ℕ
part_text a s es i = range_text s (part_start a es i) (part_end a es i)

-- `-` for a byte that is not given, `no` and a number, one below 0, `slots`, or a number
abbrev pub value_text : Kind → ℕ → List ℕ
value_text OptionalByte v = pick (eqb v no_byte) (ascii "-") (decimal_text v)
value_text Refused v = ascii "no " ++ decimal_text v
value_text Negative v = ascii "-" ++ decimal_text v
value_text Slots v = ascii "slots"
value_text _ v = decimal_text v

-- an item of a kind, with a part and a number for it
abbrev pub body_text : Told → Kind → ℕ → ℕ → List ℕ
body_text t Bytes part v = part_text t.answer t.bytes t.ends part
body_text t Named part v = part_text t.answer t.bytes t.ends v
body_text t Count part v = decimal_text t.answer.ends
body_text t kind part v = value_text kind v

-- ---- all items

-- how far an answer has been printed: the item that comes, those told that follow it, and those of the format behind them; how
-- many parts and numbers are behind it
pub record Printing : Type 0 where
  pub item : Item
  pub told : ℕ
  pub format : Form
  pub parts : ℕ
  pub numbers : ℕ

abbrev pub printing : Printed → Printing
printing p = record { item = p.item; told = p.told; format = form p.format; parts = p.parts; numbers = p.numbers }

-- the item that comes, behind what stands before it
unfoldable pub item_text : Told → Printing → List ℕ
item_text t p = separator_of p.item.before ∷ body_text t p.item.kind p.parts (get_or t.numbers p.numbers 0)

abbrev pub after_of : ℕ → ℕ
after_of i = capped (i + 1)

-- no more is left for an item of a kind
abbrev pub is_over : Line → Kind → Printing → Bool
is_over a Bytes p = leb a.ends p.parts
is_over a _ p = leb a.numbers p.numbers

-- at the first item that the number v tells, n numbers being behind
abbrev pub told_at : ℕ → ℕ → Printing → Printing
told_at v n p = record { item = item_of (v % 256); told = v / 256; format = p.format; parts = p.parts; numbers = n }

-- at the first item that the next number tells, in place of all but the repeated ones
abbrev pub opened_of : Told → Printing → Printing
opened_of t p =
    record {
      item = item_of (get_or t.numbers p.numbers 0 % 256);
      told = get_or t.numbers p.numbers 0 / 256;
      format = any p.format.repeated;
      parts = p.parts;
      numbers = after_of p.numbers;
    }

-- two digits that stand for such items
abbrev pub tells : ℕ → Bool
tells c = eqb c (item_code (plain Tells))

-- at the item i before those of f
abbrev pub opened_at : Told → Item → Form → Printing → Printing
opened_at t i f p =
    let here : Printing = record { item = i; told = p.told; format = f; parts = p.parts; numbers = p.numbers } in
    pick (tells (item_code i)) (opened_of t here) here

-- repeated kinds end where there is no more for the first of them
abbrev pub next_by : Told → Printing → Option (Item × Form) → Option Printing
next_by t p None = None
next_by t p (Some x) = pick (eqb (length p.format.items) 0 && is_over t.answer x.0.kind p) None (Some (opened_at t x.0 x.1 p))

-- at the next item, if there is one
unfoldable pub next_of : Told → Printing → Option Printing
next_of t p =
    pick (tells (p.told % 256)) (Some (opened_of t p)) (
    pick (ltb 0 p.told) (Some (told_at p.told p.numbers p)) (next_by t p (split_of p.format)))

-- behind an item that took a part or a number
abbrev pub past_by : Kind → Printing → Printing
past_by Bytes p = record { item = p.item; told = p.told; format = p.format; parts = after_of p.parts; numbers = p.numbers }
past_by Count p = p
past_by _ p = record { item = p.item; told = p.told; format = p.format; parts = p.parts; numbers = after_of p.numbers }

abbrev pub past_of : Printing → Printing
past_of p = past_by p.item.kind p

-- the next item, and more behind it
abbrev pub items_then : Told → (Printing → List ℕ) → Option Printing → List ℕ
items_then t more None = []
items_then t more (Some o) = item_text t o ++ more (past_of o)

-- the items from here on, k at most
unfoldable pub items_text : ℕ → Told → Printing → List ℕ
items_text zero t p = []
items_text (suc k) t p = items_then t (items_text k t) (next_of t p)

-- ---- the line

abbrev pub print_start : Form → Printing
print_start f = record { item = plain Number; told = 0; format = f; parts = 0; numbers = 0 }

-- `ok`, or `no` and the refusal's number
abbrev pub head_text : Option ℕ → List ℕ
head_text None = ascii "ok"
head_text (Some k) = value_text Refused k

-- a refusal's line has its number, and what numbers come with it
abbrev pub format_of : Option ℕ → Form → Form
format_of None f = f
format_of (Some k) f = any (plain Number ∷ [])

-- a line's end; dirty: memory was changed that the answer does not account for
abbrev pub end_text : Bool → List ℕ
end_text clean = pick clean (10 ∷ []) (ascii " dirty\n")

unfoldable pub answer_text : Told → Form → Bool → List ℕ
answer_text t f own =
    head_text t.answer.refusal
    ++ (items_text (2 ^ 64 - 1) t (print_start (format_of t.answer.refusal f)) ++ end_text (is_clean own t.answer t.bytes t.ends t.numbers))

abbrev pub bad_line : List ℕ
bad_line = ascii "bad line\n"

-- The text of the line protocol: hexadecimal byte strings, decimal numbers, words. Characters are ASCII codes.
use Rattle.std.specs.Prelude.{ℕ, ◌+◌, ◌-◌, ◌*◌, ◌/◌, ◌%◌, ◌^◌, List, [], ◌∷◌, Bool, ◌&&◌, cond as pick, Option, Some, None, is_some, unwrap_or, length, drop, leb, ltb, eqb}
use Rattle.std.specs.List.{list_all, before_first}
use Rattle.std.specs.Str.{bytes_eq}
use Rattle.bitio.specs.Lent.{has_room, lent}
use Prim.Native.Char.{code}
use Prim.Native.String.{String, [] as ending, ◌∷◌ as ◌before◌}

-- a text as the protocol has it
abbrev pub ascii : String → List ℕ
ascii ending = []
ascii (c before s) = code c ∷ ascii s

-- 0 to 9, then a to f
unfoldable pub hex_digit : ℕ → ℕ
hex_digit v = pick (ltb v 10) (48 + v) (87 + v)

-- what a digit stands for, if it is one
unfoldable pub hex_value : ℕ → Option ℕ
hex_value c = pick (ltb c 48) None (pick (leb c 57) (Some (c - 48)) (pick (ltb c 97) None (pick (leb c 102) (Some (c - 87)) None)))

abbrev pub all_hex : List ℕ → Bool
all_hex s = list_all (λ c. is_some (hex_value c)) s

-- the byte of two digits
abbrev pub byte_of : ℕ → ℕ → ℕ
byte_of a b = 16 * unwrap_or (hex_value a) 0 + unwrap_or (hex_value b) 0

-- two digits a byte
unfoldable pub hex_text : List ℕ → List ℕ
hex_text [] = []
hex_text (b ∷ s) = hex_digit (b / 16) ∷ hex_digit (b % 16) ∷ hex_text s

unfoldable pub hex_bytes : List ℕ → List ℕ
hex_bytes [] = []
hex_bytes (a ∷ []) = []
hex_bytes (a ∷ b ∷ s) = byte_of a b ∷ hex_bytes s

-- an even number of digits
unfoldable pub pairs : List ℕ → Option (List ℕ)
pairs s = pick (eqb (length s % 2) 0 && all_hex s) (Some (hex_bytes s)) None

-- two digits a byte, or - for no bytes
unfoldable pub byte_string : List ℕ → Option (List ℕ)
byte_string s = pick (bytes_eq s (ascii "-")) (Some []) (pick (eqb (length s) 0) None (pairs s))

-- ---- byte strings put into memory

-- the place behind the bytes, put into d at w, if they have room there
unfoldable pub decoded_to : List ℕ → ℕ → Option (List ℕ) → Option ℕ
decoded_to d w None = None
decoded_to d w (Some xs) = pick (has_room d w xs) (Some (w + length xs)) None

-- d afterwards
unfoldable pub decoded_in : List ℕ → ℕ → Option (List ℕ) → List ℕ
decoded_in d w None = d
decoded_in d w (Some xs) = lent d w xs

-- ---- numbers and words

-- a u64 whose digits up to here came to v
unfoldable pub number_from : ℕ → List ℕ → Option ℕ
number_from v [] = Some v
number_from v (c ∷ s) =
    pick (ltb c 48) None (pick (leb c 57) (pick (ltb (10 * v + (c - 48)) (2 ^ 64)) (number_from (10 * v + (c - 48)) s) None) None)

-- one or more digits
unfoldable pub read_number : List ℕ → Option ℕ
read_number [] = None
read_number (c ∷ s) = number_from 0 (c ∷ s)

-- the characters before the first e
abbrev pub word : ℕ → List ℕ → List ℕ
word e s = before_first (λ c. eqb c e) s

-- whether the first word is a name
abbrev pub is_named : List ℕ → List ℕ → Bool
is_named name s = bytes_eq (word 32 s) name

-- the word that starts at i
abbrev pub word_at : ℕ → List ℕ → ℕ → List ℕ
word_at e s i = word e (drop i s)

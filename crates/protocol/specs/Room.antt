-- How much a request is lent (the protocol's prefix `room B E T `).
use Rattle.std.specs.Prelude.{ℕ, ◌+◌, List, Bool, true, ◌&&◌, cond as pick, Option, Some, None, Result, Ok, Err, length, leb}
use Rattle.std.specs.Option.{option_map}
use Rattle.protocol.specs.Text.{ascii, read_number, word, is_named, word_at}
use Rattle.protocol.specs.declared.lent.Room.{Room}
use Rattle.protocol.specs.declared.lent.Prefix.{Prefix}
use Rattle.protocol.specs.declared.lent.Share.{Share}
use Rattle.protocol.specs.declared.lent.Share.TheVariants.{Nothing, Few, All}
use Rattle.protocol.specs.declared.lent.Shares.{Shares}
use Rattle.protocol.specs.declared.lent.Lent.{Lent}

-- ---- a number wherever it stands

-- the number at i, and where the next field starts
unfoldable pub number_field : List ℕ → ℕ → Option (ℕ × ℕ)
number_field s i = pick (leb i (length s)) (option_map (λ v. (v, i + length (word_at 32 s i) + 1)) (read_number (word_at 32 s i))) None

-- ---- the prefix

-- its three numbers, one behind the other; an error has those before the bad one
abbrev pub room_by_times : ℕ → ℕ → Option (ℕ × ℕ) → Result Prefix Room
room_by_times b e None = Err (record { bytes = b; ends = e; times = 0 })
room_by_times b e (Some t) = Ok (record { room = Some (record { bytes = b; ends = e; times = t.0 }); next = t.1 })

abbrev pub room_by_ends : List ℕ → ℕ → Option (ℕ × ℕ) → Result Prefix Room
room_by_ends s b None = Err (record { bytes = b; ends = 0; times = 0 })
room_by_ends s b (Some e) = room_by_times b e.0 (number_field s e.1)

abbrev pub room_by_bytes : List ℕ → Option (ℕ × ℕ) → Result Prefix Room
room_by_bytes s None = Err (record { bytes = 0; ends = 0; times = 0 })
room_by_bytes s (Some b) = room_by_ends s b.0 (number_field s b.1)

-- `room`, and three numbers; or no prefix
unfoldable pub room_prefix : List ℕ → Result Prefix Room
room_prefix s = pick (is_named (ascii "room") s) (room_by_bytes s (number_field s (length (word 32 s) + 1))) (Ok (record { room = None; next = 0 }))

-- ---- what is lent

-- of one sort of memory: none; as the prefix says; ample: 512, or all there is
abbrev pub size_lent : Share → Option ℕ → ℕ → ℕ
size_lent Nothing given most = 0
size_lent Few (Some n) most = n
size_lent All (Some n) most = n
size_lent Few None most = 512
size_lent All None most = most

abbrev pub lent_by : Shares → Option Room → Lent
lent_by x r =
    record {
      is_own = x.is_own;
      bytes = size_lent x.bytes (option_map (λ (r : Room). r.bytes) r) 65536;
      ends = size_lent x.ends (option_map (λ (r : Room). r.ends) r) 32768;
      numbers = size_lent x.numbers (option_map (λ (r : Room). r.times) r) 32768;
    }

-- no more than there is
abbrev pub is_there : Lent → Bool
is_there l = leb l.bytes 65536 && leb l.ends 32768 && leb l.numbers 32768

-- all of the program's memory where the request fills it by itself
abbrev pub lent_within : Lent → ℕ → ℕ → ℕ → Lent
lent_within l bytes ends numbers =
    pick l.is_own (record { is_own = true; bytes = bytes; ends = ends; numbers = numbers }) l

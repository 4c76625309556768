-- Runs of packets: what the code of merge_frameless_packets asks of them.
use Rattle.std.specs.List.{find, range_with_len}
use Rattle.std.specs.Prelude.{ℕ, ◌+◌, ◌-◌, ◌≤◌, ◌==◌, not, ◌<◌, ◌≡◌, List, [], ◌∷◌, ◌++◌, Bool, true, false, length, get_or}
use Rattle.std.proofs.Math.Seq.{slice}
use Rattle.bitio.specs.Every.{Every}
use Rattle.bitio.specs.Parse.{Answer, refused, accepted, answer, Head, stop, item}
use Rattle.bitio.specs.Lent.{pasted}
use Rattle.obu.specs.Obu.{Obu, head_obu, obus, unit_bytes}
use Rattle.obu.specs.Unit.{of_unit}
use Rattle.container.specs.Stream.{lead, others, either, has_frame, stream_bytes}
use Rattle.bitio.specs.Limits.{limit, capped}
use Rattle.container.specs.code.Ranges.{kept_bytes}
use Rattle.packets.specs.Packets.{Packet, merge_packets}
use Rattle.container.specs.Units.{units_at, ends_of, sizes_of, bytes_after, ends_after}
use Rattle.container.specs.Lists.{listed, unit_of, accepts}
use Rattle.packets.specs.PacketLists.{stamped, bytes_of, times_of, lent_room, merged_at, times_after}
use Rattle.std.specs.Prelude.{Result, Option, Some, None}
use Rattle.bitio.specs.Refusal.{says}
use Rattle.bitio.specs.declared.refusal.Refusal.{Refusal}
use Rattle.container.specs.declared.units.Sizes.{Sizes}

-- a unit that goes out, after what waits: it does not parse, or has a frame
abbrev pub closes : List ℕ → Bool
closes u = of_unit true has_frame (obus u)

-- the OBUs of units that parse, put end to end
abbrev pub parsed : List ℕ → List Obu
parsed u = of_unit [] (λ os. os) (obus u)

unfoldable pub all_parsed : List (List ℕ) → List Obu
all_parsed [] = []
all_parsed (u ∷ us) = parsed u ++ all_parsed us

-- the OBU at the head of a unit, if it is a delimiter
abbrev pub lead_at : Head Obu → List Obu
lead_at (stop k) = []
lead_at (item o r) = lead (o ∷ [])

abbrev pub lead_of : List ℕ → List Obu
lead_of u = lead_at (head_obu u)

-- what goes out: w waits, u closes, t is behind it
abbrev pub piece_of : List Obu → List ℕ → List Obu → Answer (List Obu) → List ℕ
piece_of w u t (refused k) = unit_bytes w ++ (u ++ unit_bytes t)
piece_of w u t (accepted os) = unit_bytes (either (lead w) (either (lead os) (lead t)) ++ others (w ++ (os ++ t)))

-- the same of the units us: those from a to c wait, that at c closes, those behind it up to b follow
unfoldable pub piece : List (List ℕ) → ℕ → ℕ → ℕ → List ℕ
piece us a c b = piece_of (all_parsed (slice a c us)) (get_or us c []) (all_parsed (slice (c + 1) b us)) (obus (get_or us c []))

-- a unit that parses
pub record Parses (u : List ℕ) : Type 0 where
  pub os : List Obu
  pub reads : obus u ≡ accepted os

-- a unit that waits: it parses, and has no frame
pub record Waits (u : List ℕ) : Type 0 where
  pub os : List Obu
  pub reads : obus u ≡ accepted os
  pub none : has_frame os ≡ false

-- c is the next unit from a on that closes, or the number of units
pub record Next (us : List (List ℕ)) (a c : ℕ) : Type 0 where
  pub order : a ≤ c
  pub within : c ≤ length us
  pub wait : Every Waits (slice a c us)
  pub close : c < length us → closes (get_or us c []) ≡ true

-- the first unit of those from a to b that closes
abbrev pub next_close : List (List ℕ) → (a b : ℕ) → Option ℕ
next_close us a b = find (λ i. closes (get_or us i [])) (range_with_len a (b - a))

-- the next unit from a on that closes, if one does
abbrev pub NextClose : List (List ℕ) → ℕ → Option ℕ → Type 0
NextClose us a None = Next us a (length us)
NextClose us a (Some c) = Next us a c × (c < length us)

-- where what goes out ends, n being the number of units: at a, behind the unit that closes, or at the end if no other closes
abbrev pub stop_of : Option ℕ → ℕ → ℕ → ℕ
stop_of None a n = n
stop_of (Some d) a n = a

abbrev pub Empty : List ℕ → Type 0
Empty u = length u ≡ 0

-- i is the first unit from a on that has bytes, or b
pub record Full (us : List (List ℕ)) (a b i : ℕ) : Type 0 where
  pub order : a ≤ i
  pub within : i ≤ b
  pub empty : Every Empty (slice a i us)
  pub full : i < b → 0 < length (get_or us i [])

-- the first unit with bytes of those from a to b
abbrev pub first_full : List (List ℕ) → (a b : ℕ) → Option ℕ
first_full us a b = find (λ i. not (length (get_or us i []) == 0)) (range_with_len a (b - a))

-- the first unit with bytes of those from a to b, if one has any
abbrev pub FirstFull : List (List ℕ) → (a b : ℕ) → Option ℕ → Type 0
FirstFull us a b None = Full us a b b
FirstFull us a b (Some i) = Full us a b i × (i < b)

-- the units from a to b parse
pub record Run (s es : List ℕ) (a b : ℕ) : Type 0 where
  pub short : length s ≤ limit
  pub within : b ≤ length es
  pub order : a ≤ b
  pub parse : Every Parses (slice a b (listed s es))

-- and have room in d at `to`
pub record RunRoom (s es : List ℕ) (a b : ℕ) (keep : Bool) (d : List ℕ) (to : ℕ) : Type 0 where
  pub run : Run s es a b
  pub room : to + length (kept_bytes keep (all_parsed (slice a b (listed s es)))) ≤ length d

-- u is the packet at the head of those from a to b: the first with bytes, or empty where none has any
pub data HeadAt (s es : List ℕ) (a b : ℕ) : List ℕ → Type 0 where
  found : {i : ℕ} → Full (listed s es) a b i → i < b → HeadAt s es a b (unit_of s es i)
  missing : {i : ℕ} → Full (listed s es) a b i → b ≤ i → HeadAt s es a b []

-- u is the packet whose delimiter moves to the front: the head of those that wait, the one that closes, the head of those
-- behind it, the first of them that has one
pub data LeadAt (s es : List ℕ) (a c b : ℕ) : List ℕ → Type 0 where
  waiting : {u : List ℕ} → HeadAt s es a c u → (lead_of u ≡ [] → ⊥) → LeadAt s es a c b u
  closing : {u : List ℕ} → HeadAt s es a c u → lead_of u ≡ [] → (lead_of (unit_of s es c) ≡ [] → ⊥) → LeadAt s es a c b (unit_of s es c)
  behind : {u v : List ℕ} → HeadAt s es a c u → lead_of u ≡ [] → lead_of (unit_of s es c) ≡ [] → HeadAt s es (c + 1) b v → LeadAt s es a c b v

-- whether a unit parses
abbrev pub parses_unit : List ℕ → Bool
parses_unit u = of_unit false (λ os. true) (obus u)

-- the units from a to c and those behind c up to b parse
pub record Piece (s es : List ℕ) (a c b : ℕ) : Type 0 where
  pub short : length s ≤ limit
  pub order : a ≤ c
  pub after : c < b
  pub within : b ≤ length es
  pub front : Every Parses (slice a c (listed s es))
  pub back : Every Parses (slice (c + 1) b (listed s es))

-- and so does that at c
pub record Joins (s es : List ℕ) (a c b : ℕ) : Type 0 where
  pub all : Piece s es a c b
  pub mid : Parses (unit_of s es c)

-- the piece has room in d at `to`
pub record PieceRoom (s es : List ℕ) (a c b : ℕ) (d : List ℕ) (to : ℕ) : Type 0 where
  pub all : Piece s es a c b
  pub room : to + length (piece (listed s es) a c b) ≤ length d

pub record JoinsRoom (s es : List ℕ) (a c b : ℕ) (d : List ℕ) (to : ℕ) : Type 0 where
  pub joins : Joins s es a c b
  pub room : to + length (piece (listed s es) a c b) ≤ length d

-- ---- the whole

-- the packets of the bytes s, with the ends es and the times ts, which match
abbrev pub packets_of : List ℕ → List ℕ → List ℕ → List Packet
packets_of s es ts = stamped ts (listed s es)

abbrev pub merged_of : List ℕ → List ℕ → List ℕ → List Packet
merged_of s es ts = merge_packets (packets_of s es ts)

-- how many bytes and packets go out
pub record Totals (s es ts : List ℕ) (n u : ℕ) : Type 0 where
  pub bytes : n ≡ capped (length (stream_bytes (bytes_of (merged_of s es ts))))
  pub count : u ≡ length (merged_of s es ts)

-- the first packet that closes is c
pub record Closing (s es ts : List ℕ) (c : ℕ) : Type 0 where
  pub short : length s ≤ limit
  pub match : length es ≡ length ts
  pub next : Next (listed s es) 0 c
  pub some : c < length es

-- what goes out has room in o, e and t
pub record MergeRoom (s es ts o e t : List ℕ) : Type 0 where
  pub small : length (stream_bytes (bytes_of (merged_of s es ts))) ≤ limit
  pub bytes : length (stream_bytes (bytes_of (merged_of s es ts))) ≤ length o
  pub ends : length (merged_of s es ts) ≤ length e
  pub times : length (merged_of s es ts) ≤ length t

pub record Ready (s es ts : List ℕ) (c : ℕ) (o e t : List ℕ) : Type 0 where
  pub measured : Closing s es ts c
  pub room : MergeRoom s es ts o e t

-- and has been written
pub record WroteMerged (s es ts o e t o' e' t' : List ℕ) : Type 0 where
  pub bytes : o' ≡ pasted o 0 (stream_bytes (bytes_of (merged_of s es ts)))
  pub ends : e' ≡ pasted e 0 (ends_of 0 (bytes_of (merged_of s es ts)))
  pub times : t' ≡ pasted t 0 (times_of (merged_of s es ts))

-- packets that have passed 34 and 36
pub record Given (s es ts : List ℕ) : Type 0 where
  pub short : length s ≤ limit
  pub match : length es ≡ length ts
  pub listed : accepts (units_at s es) ≡ true

-- and the first of them that closes is c
pub record OneCloses (s es ts : List ℕ) (c : ℕ) : Type 0 where
  pub given : Given s es ts
  pub next : Next (listed s es) 0 c
  pub some : c < length es

-- or none closes
pub record NoneCloses (s es ts : List ℕ) : Type 0 where
  pub given : Given s es ts
  pub next : Next (listed s es) 0 (length es)

-- the answer, and what lent memory holds
pub record Outcome (s es ts o e t : List ℕ) (r : Result Sizes Refusal) (o' e' t' : List ℕ) : Type 0 where
  pub answers : says r ≡ sizes_of (answer bytes_of (merged_at (lent_room o e t) s es ts))
  pub bytes : o' ≡ bytes_after (answer bytes_of (merged_at (lent_room o e t) s es ts)) o
  pub ends : e' ≡ ends_after (answer bytes_of (merged_at (lent_room o e t) s es ts)) e
  pub times : t' ≡ times_after (merged_at (lent_room o e t) s es ts) t

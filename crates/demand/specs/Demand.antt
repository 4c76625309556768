-- What demand 3 claims of a list that is given out, of whatever blocks, or of its first units (01, 'What demand 3 speaks of').
-- A segment is 01's board. Premises says what is asked of the segments, Kinds what a unit is, Courses what is played.
use Rattle.std.specs.Prelude.{ℕ, suc, ◌-◌, ◌≤◌, ◌<◌, ◌≡◌, ◌↔◌, ◌⊎◌, Bool, true, length, get_or, take, drop}
use mathlib.Core.List.{List, [], ◌∷◌, map, Memᴰ}
use Rattle.std.proofs.Math.Option.{some}
use Rattle.bitio.specs.Parse.{refused, accepted}
use Rattle.obu.specs.Unit.{sequence_payload}
use Rattle.header.specs.Sequence.{Sequence, parse_sequence}
use Rattle.frame.specs.declared.frame_header.FrameInfo.{FrameInfo}
use Rattle.frame.specs.declared.frame_header.FrameHeaderInfo.TheVariants.{Existing, Frame}
use Rattle.container.specs.Limits.{Room}
use Rattle.container.specs.Stream.{stream_bytes}
use Rattle.container.specs.Units.{ends_of}
use Rattle.container.specs.Container.{Container, read, write, write_at}
use Rattle.blocks.specs.Blocks.{Entry, number, layout, positions, cues_of, total}
use Rattle.blocks.specs.declared.blocks.Kind.{Kind}
use Rattle.blocks.specs.declared.blocks.Kind.TheVariants.{Key, Golden, Show}
use Rattle.pictures.specs.Segments.{Segment, frames_of}
use Rattle.pictures.specs.Prepare.{effective, renewal, sent, slot_of, show_unit}
use Rattle.pictures.specs.declared.settings.Settings.{Settings}
use Rattle.pictures.specs.Assemble.{Output, units_of}
use Rattle.frame.specs.UnitFrame.{unit_frame}
use Rattle.player.specs.Player.{empty, filled, State, start, play}
use Rattle.demand.specs.Kinds.{unit_kind, is_key_unit, unit_at, segment_of}
use Rattle.demand.specs.Premises.{list_header}
use Rattle.demand.specs.Courses.{Course, Throughout}

-- rising, the first at lo or above
unfoldable pub Rising : ℕ → List ℕ → Type 0
Rising lo [] = Unit
Rising lo (x ∷ l) = (lo ≤ x) × (Rising (suc x) l)

-- what is given out: the list's entries by number, the cues, and the units
pub record Given : Type 0 where
  pub list : List ℕ
  pub cues : List ℕ
  pub units : List (List ℕ)

-- by assembly
abbrev pub handed : Output → Given
handed r = record { list = r.list; cues = r.cues; units = units_of r }

-- the first n units alone, and the cues among them
abbrev pub front : ℕ → Given → Given
front n g = record { list = take n g.list; cues = cues_of (take n g.list); units = take n g.units }

abbrev pub empty_segment : Segment
empty_segment = record { key = []; golden = []; frames = 0 }

-- the segment whose position p is
abbrev pub own_segment : List Segment → ℕ → Segment
own_segment xs p = get_or xs (segment_of (frames_of xs) p) empty_segment

-- the list's sequence header is q, before timing
module _ (set : Settings) (q : Sequence) where
  -- u has the bytes of the segment's key or golden as they go out: rewritten where a timed header takes the place of an untimed one, else copied
  -- (01, 'Unit list and cue list')
  abbrev pub IsKey : Segment → List ℕ → Type 0
  IsKey x u = sent (renewal set q) x.key ≡ accepted u

  abbrev pub IsGolden : Segment → List ℕ → Type 0
  IsGolden x u = sent (renewal set q) x.golden ≡ accepted u

  -- or of the segment's own show unit, which names the lowest slot that the segment's own golden refreshes (01, 'Unit list and cue list')
  abbrev pub IsShow : Segment → List ℕ → Type 0
  IsShow x u = (f : FrameInfo) × (unit_frame true (effective set q) x.golden ≡ accepted (Frame f)) × (u ≡ show_unit (slot_of f.refresh_frame_flags))

  abbrev pub IsUnit : Kind → Segment → List ℕ → Type 0
  IsUnit Key x u = IsKey x u
  IsUnit Golden x u = IsGolden x u
  IsUnit Show x u = IsShow x u

  -- position p of the list g
  pub record Listed (xs : List Segment) (g : Given) (p : ℕ) : Type 0 where
    pub kind : Kind
    -- its entry names that kind of unit of the segment whose position it is (`number`: 01, 'Unit list and cue list')
    pub entry : get_or g.list (p - 1) 0 ≡ number (record { segment = segment_of (frames_of xs) p; kind = kind })
    -- its bytes are that unit's
    pub bytes : IsUnit kind (own_segment xs p) (unit_at g.units p)
    -- and say so
    pub says : unit_kind (effective set q) (unit_at g.units p) ≡ accepted kind

  -- ---- one play, of the units us from the cue c on

  module _ (xs : List Segment) (us : List (List ℕ)) (c p : ℕ) (st : State) where
    -- the unit at p, a show unit played in the state st, shows position o
    pub record ShowsGolden (o : ℕ) : Type 0 where
      -- the slot that it names is at that moment filled and showable, and holds o (01, 'Player (added)')
      pub slot : ℕ
      pub names : unit_frame true (effective set q) (unit_at us p) ≡ accepted (Existing slot)
      pub key_mark : Bool
      pub holds : get_or st.slots slot empty ≡ filled o true key_mark
      -- o is the greatest position below p whose unit is a golden unit
      pub below : o < p
      pub golden : unit_kind (effective set q) (unit_at us o) ≡ accepted Golden
      pub greatest : (j : ℕ) → o < j → j < p → unit_kind (effective set q) (unit_at us j) ≡ accepted Golden → ⊥
      -- it lies behind the cue, and is p's segment's own: at one of that segment's positions, with the bytes of that segment's golden
      pub behind : c < o
      pub among : segment_of (frames_of xs) o ≡ segment_of (frames_of xs) p
      pub own : IsGolden (own_segment xs p) (unit_at us o)

    -- what the answer has to be: for a key or golden unit its own position
    abbrev pub Right : Kind → ℕ → Type 0
    Right Key o = o ≡ p
    Right Golden o = o ≡ p
    Right Show o = ShowsGolden o

    -- the unit at p, played in the state st, is not refused, and shows what it has to, by what it is as its bytes say
    pub record PlaysRight : Type 0 where
      pub kind : Kind
      pub says : unit_kind (effective set q) (unit_at us p) ≡ accepted kind
      pub shown : ℕ
      pub after : State
      pub answer : play st p (unit_at us p) ≡ accepted (record { shown = some shown; state = after })
      pub right : Right kind shown

-- the units vs, all of them in order, written in a container and read back: us
pub record ReadBack (vs us : List (List ℕ)) : Type 0 where
  pub container : Container
  pub room : Room
  pub bytes : List ℕ
  pub written : write container room vs ≡ accepted bytes
  pub room' : Room
  pub read_back : read container room' bytes ≡ accepted us

-- Demand 3, of the n units of g, given out for the segments xs, es being the entries that their blocks give.
-- One claim for the whole way: what is listed, written, read back and played are the same units, and the list's header and cues serve all four parts.
pub record Demand (set : Settings) (xs : List Segment) (es : List Entry) (n : ℕ) (g : Given) : Type 0 where
  -- What the list's sequence header reads as.
  -- As it goes out, timed if it was not, every cue's unit has it, and position 1 is a cue.
  pub header : Sequence
  pub reads : parse_sequence (list_header xs) ≡ accepted header
  pub starts : Memᴰ 1 g.cues
  pub carries : (cue : ℕ) → Memᴰ cue g.cues → parse_sequence (sequence_payload (unit_at g.units cue)) ≡ accepted (effective set header)
  --
  -- 1. The entries are, segment after segment, what the blocks give; there are n units;
  --    each has the bytes of its segment's key or golden, copied or rewritten, or of the segment's own show unit.
  pub entries : g.list ≡ map number es
  pub count : length g.units ≡ n
  pub units : (p : ℕ) → 1 ≤ p → p ≤ n → Listed set header xs g p
  --
  -- 2. The units are written from lent memory: their bytes one behind the other, and the end of each.
  pub lent : (c : Container) (room : Room) → write_at c room (stream_bytes g.units) (ends_of 0 g.units) ≡ write c room g.units
  -- The only refusals on the way are of size: too long (34) or no room (35) in writing, no room in reading back.
  pub writing : (c : Container) (room : Room) (k : ℕ) → write c room g.units ≡ refused k → (k ≡ 34) ⊎ (k ≡ 35)
  pub reading : (c : Container) (room room' : Room) (bs : List ℕ) → write c room g.units ≡ accepted bs → (k : ℕ) → read c room' bs ≡ refused k → k ≡ 35
  -- else the units read back are the list's, byte for byte
  pub back : (us : List (List ℕ)) → ReadBack g.units us → us ≡ g.units
  --
  -- 3. The cues are exactly the positions, from 1 and rising, of the units that are key units as their bytes say.
  pub cues : g.cues ≡ positions (is_key_unit (effective set header)) 1 g.units
  pub exactly : (p : ℕ) → Memᴰ p g.cues ↔ ((1 ≤ p) × (p ≤ n) × (unit_kind (effective set header) (unit_at g.units p) ≡ accepted Key))
  pub rising : Rising 1 g.cues
  --
  -- 4. From every cue on, the units read back are played, from eight empty slots and no kept header.
  --    Whatever refused units are played before and between them: none of them, each under its own position, is refused, and each shows what it has to.
  pub played : (us : List (List ℕ)) → ReadBack g.units us → (cue : ℕ) → Memᴰ cue g.cues → (course : Course start cue (drop (cue - 1) us))
      → Throughout (λ p st. PlaysRight set header xs us cue p st) course

-- of what assembly has handed out: as many units as frames are ordered in all, in the blocks of 01, 'Unit list and cue list' (`layout`)
abbrev pub Demand3 : Settings → List Segment → Output → Type 0
Demand3 set xs r = Demand set xs (layout set.gop 0 (frames_of xs)) (total (frames_of xs)) (handed r)

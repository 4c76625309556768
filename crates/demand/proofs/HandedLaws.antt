-- The unit that a list entry names, in what is handed out, is its segment's own.
use Prim.Native.Nat.{ℕ, zero, suc, ◌+◌, ◌*◌, ◌-◌, ◌≤◌, ◌<◌}
use native.Mathlib.Omega.{arith}
use mathlib.Core.Path.{◌≡◌, sym}
use mathlib.Core.List.{List, [], ◌∷◌, ◌++◌, map, flat_map, append_assoc}
use mathlib.Core.Bool.{cond as pick}
use lib.ListN.{length, get_or, length-append}
use lib.Seq.{take-append_seam, drop-append_seam}
use lib.Dec.{eqb, ltb}
use borrow.Author.Tests.{le-leb}
use Rattle.bitio.specs.Lent.{span}
use Rattle.obu.specs.Place.{part, part_in}
use Rattle.blocks.specs.Blocks.{Entry, code, number, cues_of}
use Rattle.blocks.specs.declared.blocks.Kind.{Kind}
use Rattle.blocks.specs.declared.blocks.Kind.TheVariants.{Key, Golden, Show}
use Rattle.pictures.specs.Prepare.{Prepared, show_unit}
use Rattle.pictures.specs.Assemble.{picture_of, ends_from, shows_of, named}
use Rattle.demand.specs.Demand.{Given}
use Rattle.demand.proofs.ListLaws.{number-kind, number-segment}

abbrev pub no_units : Prepared
no_units = record { key = []; golden = []; slot = 0 }

-- the unit of each kind
abbrev pub unit_of : Kind → Prepared → List ℕ
unit_of Key b = b.key
unit_of Golden b = b.golden
unit_of Show b = show_unit b.slot

-- the unit of an entry, bs being the segments' units
abbrev pub unit_by : List Prepared → Entry → List ℕ
unit_by bs e = unit_of e.kind (get_or bs e.segment no_units)

-- the entries es given out
abbrev pub given_out : List Prepared → List Entry → Given
given_out bs es = record { list = map number es; cues = cues_of (map number es); units = map (unit_by bs) es }

-- each segment's units are within n bytes
abbrev pub UnitsWithin : ℕ → List Prepared → Type 0
UnitsWithin n bs = (i : ℕ) → i < length bs → (length (get_or bs i no_units).key ≤ n) × (length (get_or bs i no_units).golden ≤ n)

-- a part in the middle
pub part-mid : (f m r : List ℕ) → part (f ++ (m ++ r)) (length f) (length f + length m) ≡ m
unfolding part span
part-mid f m r =
    let n = length-append f (m ++ r) in
    let k = length-append m r in
    let d : length f + length m - length f ≡ length m = omega arith in
    rw (le-leb (length f) (length f + length m) (omega arith), le-leb (length f + length m) (length (f ++ (m ++ r))) (omega arith), d, drop-append_seam) (take-append_seam m r)

-- ---- picture bytes

-- f stands before the picture bytes
pub key-there : (f : List ℕ) (bs : List Prepared) (i : ℕ) → i < length bs
    → part (f ++ picture_of bs) (get_or (length f ∷ ends_from (length f) bs) (2 * i) 0) (get_or (ends_from (length f) bs) (2 * i) 0) ≡ (get_or bs i no_units).key
unfolding ends_from flat_map
key-there f [] i h = absurd (omega arith)
key-there f (b ∷ bs) zero h = rw append_assoc (part-mid f b.key (b.golden ++ picture_of bs))
key-there f (b ∷ bs) (suc i) h =
    let n : 2 * suc i ≡ suc (suc (2 * i)) = omega arith in
    let m : length f + length b.key + length b.golden ≡ length (f ++ (b.key ++ b.golden)) = omega (arith, length-append f (b.key ++ b.golden), length-append b.key b.golden) in
    let e : f ++ ((b.key ++ b.golden) ++ picture_of bs) ≡ (f ++ (b.key ++ b.golden)) ++ picture_of bs = sym (append_assoc f (b.key ++ b.golden) (picture_of bs)) in
    rw (n, e, m) (key-there (f ++ (b.key ++ b.golden)) bs i (omega arith))

pub golden-there : (f : List ℕ) (bs : List Prepared) (i : ℕ) → i < length bs
    → part (f ++ picture_of bs) (get_or (length f ∷ ends_from (length f) bs) (2 * i + 1) 0) (get_or (ends_from (length f) bs) (2 * i + 1) 0) ≡ (get_or bs i no_units).golden
unfolding ends_from flat_map
golden-there f [] i h = absurd (omega arith)
golden-there f (b ∷ bs) zero h =
    let m : length f + length b.key ≡ length (f ++ b.key) = sym (length-append f b.key) in
    let e : f ++ ((b.key ++ b.golden) ++ picture_of bs) ≡ (f ++ b.key) ++ (b.golden ++ picture_of bs) = simp append_assoc in
    rw (e, m) (part-mid (f ++ b.key) b.golden (picture_of bs))
golden-there f (b ∷ bs) (suc i) h =
    let n : 2 * suc i + 1 ≡ suc (suc (2 * i + 1)) = omega arith in
    let m : length f + length b.key + length b.golden ≡ length (f ++ (b.key ++ b.golden)) = omega (arith, length-append f (b.key ++ b.golden), length-append b.key b.golden) in
    let e : f ++ ((b.key ++ b.golden) ++ picture_of bs) ≡ (f ++ (b.key ++ b.golden)) ++ picture_of bs = sym (append_assoc f (b.key ++ b.golden) (picture_of bs)) in
    rw (n, e, m) (golden-there (f ++ (b.key ++ b.golden)) bs i (omega arith))

-- ---- show bytes

pub show-there : (f : List ℕ) (bs : List Prepared) (i : ℕ) → i < length bs
    → part (f ++ shows_of bs) (length f + 5 * i) (length f + 5 * i + 5) ≡ show_unit (get_or bs i no_units).slot
unfolding flat_map
show-there f [] i h = absurd (omega arith)
show-there f (b ∷ bs) zero h =
    let n : length f + 5 * 0 ≡ length f = omega arith in
    rw n (part-mid f (show_unit b.slot) (shows_of bs))
show-there f (b ∷ bs) (suc i) h =
    let n : length f + 5 * suc i ≡ length (f ++ show_unit b.slot) + 5 * i = omega (arith, length-append f (show_unit b.slot)) in
    rw (n, ← append_assoc f (show_unit b.slot) (shows_of bs)) (show-there (f ++ show_unit b.slot) bs i (omega arith))

-- ---- the unit named

pub named-is : (bs : List Prepared) (e : Entry) → e.segment < length bs
    → named (picture_of bs) (ends_from 0 bs) (shows_of bs) (number e) ≡ unit_by bs e
unfolding named
named-is bs e h = rw (number-kind e, number-segment e) (go e.kind)
  where
    go : (k : Kind)
        → pick (ltb (code k) 2) (part_in (picture_of bs) (ends_from 0 bs) (2 * e.segment + code k)) (
        pick (eqb (code k) 2) (part (shows_of bs) (5 * e.segment) (5 * e.segment + 5)) [])
        ≡ unit_of k (get_or bs e.segment no_units)
    go Key = let n : 2 * e.segment + 0 ≡ 2 * e.segment = omega arith in rw n (key-there [] bs e.segment h)
    go Golden = golden-there [] bs e.segment h
    go Show = let n : 0 + 5 * e.segment ≡ 5 * e.segment = omega arith in rw n at (show-there [] bs e.segment h)

-- each unit is within the picture bytes
pub picture-short : (bs : List Prepared) (n : ℕ) → length (picture_of bs) ≤ n → UnitsWithin n bs
unfolding flat_map
picture-short [] n l i h = absurd (omega arith)
picture-short (b ∷ bs) n l zero h =
    let k = length-append (b.key ++ b.golden) (picture_of bs) in
    let j = length-append b.key b.golden in
    (omega arith, omega arith)
picture-short (b ∷ bs) n l (suc i) h =
    let k = length-append (b.key ++ b.golden) (picture_of bs) in
    picture-short bs n (omega arith) i (omega arith)

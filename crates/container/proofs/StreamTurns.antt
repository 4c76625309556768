-- The turns of the loops over a stream's units, and what reading a stream comes to.
use Prim.Native.Nat.{ℕ, suc, ◌+◌, ◌-◌, ◌*◌, ◌^◌, ◌≤◌, ◌<◌, max}
use native.Mathlib.Omega.{arith}
use mathlib.Core.Path.{◌≡◌, refl, sym, ap, ap₂, ◌∙◌}
use mathlib.Core.List.{List, [], ◌∷◌, ◌++◌, map, flat_map}
use mathlib.Core.Bool.{Bool, true, false, cond as pick, ◌&&◌}
use lib.ListN.{length, set, length-append, length-map, length-set}
use lib.Dec.{leb}
use borrow.Author.Tests.{le-leb, lt-leb, leb-true}
use Rattle.bitio.specs.Parse.{Answer, refused, accepted, answer}
use Rattle.bitio.specs.Lent.{pasted, Wrote}
use Rattle.bitio.proofs.LentLaws.{pasted-nil, pasted-one, pasted-more, pasted_length, wrote-more}
use Rattle.obu.specs.Obu.{Obu, obus, unit_bytes}
use Rattle.obu.specs.Unit.{is_frame, count}
use Rattle.container.specs.Stream.{others, units, stream_units, flat, stream_bytes}
use Rattle.bitio.specs.Limits.{limit}
use Rattle.container.specs.Limits.{Room, fits, fit_units, room_in}
use Rattle.container.specs.Units.{ends_of, sizes_of, bytes_after, ends_after}
use Rattle.container.specs.Container.{stream, read}
use Rattle.container.specs.code.Ranges.{kept_bytes, Ranged, Measured, Roomy, WroteKept}
use Rattle.container.specs.declared.units.Sizes.{Sizes}
use Rattle.container.specs.declared.survey.Tally.{Tally}
use Rattle.container.specs.code.Survey.{tally_of, Surveyed, sizes_fit}
use Rattle.container.specs.code.Extents.{Frames, FirstUnit, UnitRanges, UnitLength, UnitRoom, UnitWrote, StreamFrames, StreamRoom}
use Rattle.container.proofs.StreamLaws.{bytes-append, bytes-flat}
use Rattle.container.proofs.RangeLaws.{range-within, range_same, range-end, range-whole, range-most}
use Rattle.container.proofs.BoundLaws.{units-bytes-most, units-few}
use Rattle.container.proofs.ExtentTurns.{units-empty}

-- ---- one unit

unit-bytes : (ls os : List Obu) → unit_bytes (ls ++ others os) ≡ kept_bytes true ls ++ kept_bytes false os
unit-bytes ls os = bytes-append ls (others os)

unit-sum : (ls os : List Obu) → length (unit_bytes (ls ++ others os)) ≡ length (kept_bytes true ls) + length (kept_bytes false os)
unit-sum ls os = ap length (unit-bytes ls os) ∙ length-append (kept_bytes true ls) (kept_bytes false os)

module _ {s : List ℕ} {a b c d : ℕ} where
  module _ (u : UnitRanges s a b c d) where
    pub lead-ranged : Ranged s a b
    lead-ranged = record { short = u.short; os = u.leading; range = u.lead-range }

    pub inner-ranged : Ranged s c d
    inner-ranged = record { short = u.short; os = u.inner; range = u.inner-range }

    pub unit-fits : {n m : ℕ} → Measured s a b true n → Measured s c d false m → n + m < 2 ^ 63
    unit-fits x y =
        omega (arith, x u.leading u.lead-range, y u.inner u.inner-range, range-most true u.lead-range, range-most false u.inner-range, range-within u.lead-range, range-within u.inner-range, u.short)

  pub unit-length : {n m : ℕ} → Measured s a b true n → Measured s c d false m → UnitLength s a b c d (n + m)
  unit-length x y ls os p q = ap₂ ◌+◌ (x ls p) (y os q) ∙ sym (unit-sum ls os)

  module _ {e : List ℕ} {to : ℕ} (u : UnitRoom s a b c d e to) where
    pub lead-roomy : Roomy s a b true e to
    lead-roomy =
        record { os = u.leading; range = u.lead-range; room = omega (arith, u.room, unit-sum u.leading u.inner) }

    module _ {w : ℕ} {f : List ℕ} (x : WroteKept s a b true e to w f) where
      pub inner-roomy : Roomy s c d false f w
      inner-roomy =
          let y = x u.leading u.lead-range in
          let z = unit-sum u.leading u.inner in
          let n = ap length y.out ∙ pasted_length e to (kept_bytes true u.leading) (omega (arith, u.room)) in
          record { os = u.inner; range = u.inner-range; room = omega (arith, u.room, y.next) }

      pub unit-wrote : {r : ℕ} {g : List ℕ} → WroteKept s c d false f w r g → UnitWrote s a b c d e to r g
      unit-wrote y ls os p q = rw (unit-bytes ls os) (wrote-more (x ls p) (omega (arith, u.room)) (y os q))

-- the first unit of what is left can be measured, and is short
module _ {s : List ℕ} {at left a b c d : ℕ} (f : FirstUnit s at left a b c d) where
  abbrev one : List Obu
  one = f.leading ++ others f.inner

  pub unit-ranges : length s ≤ limit → UnitRanges s a b c d
  unit-ranges l = record { short = l; leading = f.leading; lead-range = f.lead-range; inner = f.inner; inner-range = f.inner-range }

  pub unit-most : length (unit_bytes one) ≤ 24 * (d - at)
  unit-most =
      omega (arith, unit-sum f.leading f.inner, range-most true f.lead-range, range-most false f.inner-range, f.lead_after, f.lead-within, f.after, f.some)

-- ---- measuring

abbrev bytes_left : List Obu → ℕ
bytes_left os = length (unit_bytes (flat (units os)))

-- n bytes and u units up to `at`
pub record Sizing (s : List ℕ) (at left n u : ℕ) : Type 0 where
  pub short : length s ≤ limit
  pub rest : Frames s at left
  pub small : n ≤ 24 * at
  pub few : u ≤ at
  pub sizes : sizes_of (stream_units s) ≡ accepted (record { bytes = n + bytes_left rest.all; units = u + length (units rest.all) })

abbrev pub stream-frames : {s : List ℕ} {n : ℕ} → StreamFrames s n → Frames s 0 n
stream-frames {s} f = record { all = f.all; range = range-whole s f.reads; frames = f.frames }

-- the units of a stream that is read through
stream-units : (s : List ℕ) (os : List Obu) → obus s ≡ accepted os → stream_units s ≡ accepted (map unit_bytes (units os))
unfolding stream_units
stream-units s os e = rw e

sizes-are : (s : List ℕ) (os : List Obu) → obus s ≡ accepted os → sizes_of (stream_units s) ≡ accepted (record { bytes = bytes_left os; units = length (units os) })
sizes-are s os e = rw (stream-units s os e, bytes-flat, length-map)

sizes-start : {s : List ℕ} {n : ℕ} (f : StreamFrames s n)
    → sizes_of (stream_units s) ≡ accepted (record { bytes = 0 + bytes_left f.all; units = 0 + length (units f.all) })
sizes-start {s} f =
    let z : bytes_left f.all ≡ 0 + bytes_left f.all = omega arith in
    let y : length (units f.all) ≡ 0 + length (units f.all) = omega arith in
    sizes-are s f.all f.reads ∙ ap₂ (λ i j. accepted (record { bytes = i; units = j })) z y

pub sizing-start : {s : List ℕ} {n : ℕ} → StreamFrames s n → Sizing s 0 n 0 0
sizing-start f = record { short = f.short; rest = stream-frames f; small = omega arith; few = omega arith; sizes = sizes-start f }

-- at the end nothing is left
sizes-end : {s : List ℕ} {at left n u : ℕ} (r : Frames s at left)
    → sizes_of (stream_units s) ≡ accepted (record { bytes = n + bytes_left r.all; units = u + length (units r.all) })
    → length s ≤ at → sizes_of (stream_units s) ≡ accepted (record { bytes = n; units = u })
unfolding flat unit_bytes flat_map
sizes-end {n} {u} r q h =
    let e : units r.all ≡ [] = ap units (range-end r.range h) ∙ units-empty in
    let x : n + bytes_left r.all ≡ n = let y = ap (λ us. length (unit_bytes (flat us))) e in omega arith in
    let w : u + length (units r.all) ≡ u = let y = ap length e in omega arith in
    q ∙ ap₂ (λ i j. accepted (record { bytes = i; units = j })) x w

-- the units of what is left: the first, and those behind it
module _ {s : List ℕ} {at left a b c d : ℕ} (r : Frames s at left) (f : FirstUnit s at left a b c d) where
  pub units-next : units r.all ≡ (f.leading ++ others f.inner) ∷ units f.rest
  units-next = ap units (range_same r.range f.range) ∙ f.first

  abbrev pub frames-next : {n : ℕ} → n ≡ left - 1 → Frames s d n
  frames-next e = record { all = f.rest; range = f.behind; frames = f.left ∙ sym e }

  bytes_next : bytes_left r.all ≡ length (unit_bytes (f.leading ++ others f.inner)) + bytes_left f.rest
  unfolding flat
  bytes_next =
      ap (λ us. length (unit_bytes (flat us))) units-next ∙ ap length (bytes-append (f.leading ++ others f.inner) (flat (units f.rest)))
      ∙ length-append (unit_bytes (f.leading ++ others f.inner)) (unit_bytes (flat (units f.rest)))

  count_left : length (units r.all) ≡ suc (length (units f.rest))
  count_left = ap length units-next

module _ {s : List ℕ} {at left n u : ℕ} (z : Sizing s at left n u) where
  pub sizing-end : length s ≤ at → sizes_of (stream_units s) ≡ accepted (record { bytes = n; units = u })
  sizing-end h = sizes-end z.rest z.sizes h

  module _ {a b c d k : ℕ} (f : FirstUnit s at left a b c d) (y : UnitLength s a b c d k) where
    size : k ≡ length (unit_bytes (f.leading ++ others f.inner))
    size = y f.leading f.inner f.lead-range f.inner-range

    pub sizing-fits : (n + k < 2 ^ 63) × (u < 2 ^ 63)
    sizing-fits =
        let l = range-within f.inner-range in
        (omega (arith, size, unit-most f, z.small, z.short, f.some), omega (arith, z.few, z.short, f.some))

    pub sizing-next : {m : ℕ} → m ≡ left - 1 → Sizing s d m (n + k) (u + 1)
    sizing-next e =
        let i : n + bytes_left z.rest.all ≡ n + k + bytes_left f.rest = omega (arith, bytes_next z.rest f, size) in
        let j : u + length (units z.rest.all) ≡ u + 1 + length (units f.rest) = omega (arith, count_left z.rest f) in
        record {
          short = z.short;
          rest = frames-next z.rest f e;
          small = omega (arith, size, unit-most f, z.small, f.some);
          few = omega (arith, z.few, f.some);
          sizes = z.sizes ∙ ap₂ (λ x y. accepted (record { bytes = x; units = y })) i j;
        }

-- ---- writing

abbrev written : List Obu → List (List ℕ)
written os = map unit_bytes (units os)

-- lent memory d and e is o and m, and w and u the next places
pub record Writing (s : List ℕ) (at left : ℕ) (d e : List ℕ) (w u : ℕ) (o m : List ℕ) : Type 0 where
  pub rest : Frames s at left
  pub long : length o ≡ length d
  pub slots-long : length m ≡ length e
  pub small : w + bytes_left rest.all ≤ limit
  pub room : w + bytes_left rest.all ≤ length o
  pub slots : u + length (units rest.all) ≤ length m
  pub bytes : bytes_after (stream_units s) d ≡ pasted o w (stream_bytes (written rest.all))
  pub ends : ends_after (stream_units s) e ≡ pasted m u (ends_of w (written rest.all))
  pub sizes : sizes_of (stream_units s) ≡ accepted (record { bytes = w + bytes_left rest.all; units = u + length (units rest.all) })

pub writing_start : {s : List ℕ} {n : ℕ} {d e : List ℕ} → StreamRoom s n d e → Writing s 0 n d e 0 0 d e
writing_start {s} r =
    let f = r.stream in
    let q = stream-units s f.all f.reads in
    record {
      rest = stream-frames f;
      long = refl;
      slots-long = refl;
      small = omega (arith, r.small);
      room = omega (arith, r.room);
      slots = omega (arith, r.slots);
      bytes = rw q;
      ends = rw q;
      sizes = sizes-start f;
    }

module _ {s : List ℕ} {at left : ℕ} {d e : List ℕ} {w u : ℕ} {o m : List ℕ} (z : Writing s at left d e w u o m) where
  pub writing-end : length s ≤ at
      → (sizes_of (stream_units s) ≡ accepted (record { bytes = w; units = u }))
      × ((o ≡ bytes_after (stream_units s) d) × (m ≡ ends_after (stream_units s) e))
  unfolding stream_bytes flat ends_of
  writing-end h =
      let q : units z.rest.all ≡ [] = ap units (range-end z.rest.range h) ∙ units-empty in (
        sizes-end z.rest z.sizes h,
        (
          sym (z.bytes ∙ ap (λ us. pasted o w (stream_bytes (map unit_bytes us))) q ∙ pasted-nil o w),
          sym (z.ends ∙ ap (λ us. pasted m u (ends_of w (map unit_bytes us))) q ∙ pasted-nil m u),
        ),
      )

  module _ {a b c x : ℕ} (f : FirstUnit s at left a b c x) where
    abbrev these : List ℕ
    these = unit_bytes (f.leading ++ others f.inner)

    pub writing-room : UnitRoom s a b c x o w
    writing-room =
        record {
          leading = f.leading;
          lead-range = f.lead-range;
          inner = f.inner;
          inner-range = f.inner-range;
          room = omega (arith, z.room, bytes_next z.rest f);
        }

    module _ {v : ℕ} {p : List ℕ} (y : UnitWrote s a b c x o w v p) where
      here-wrote : Wrote o w these v p
      here-wrote = y f.leading f.inner f.lead-range f.inner-range

      pub writing-small : v ≤ limit
      writing-small = omega (arith, z.small, bytes_next z.rest f, here-wrote.next)

      pub writing-slot : u < length m
      writing-slot = omega (arith, z.slots, count_left z.rest f)

      left-units : written z.rest.all ≡ these ∷ written f.rest
      left-units = ap (map unit_bytes) (units-next z.rest f)

      p-long : length p ≡ length o
      p-long = ap length here-wrote.out ∙ pasted_length o w these (omega (arith, z.room, bytes_next z.rest f))

      bytes-then : pasted o w (stream_bytes (written z.rest.all)) ≡ pasted p v (stream_bytes (written f.rest))
      unfolding stream_bytes flat
      bytes-then =
          ap (λ us. pasted o w (stream_bytes us)) left-units
          ∙ sym (ap₂ (λ i j. pasted i j (stream_bytes (written f.rest))) here-wrote.out here-wrote.next ∙ pasted-more o w these (omega (arith, z.room)) (stream_bytes (written f.rest)))

      ends-then : pasted m u (ends_of w (written z.rest.all)) ≡ pasted (set m u v) (u + 1) (ends_of v (written f.rest))
      unfolding ends_of
      ends-then =
          ap (λ us. pasted m u (ends_of w us)) left-units
          ∙ ap (λ i. pasted m u (i ∷ ends_of i (written f.rest))) (sym here-wrote.next)
          ∙ sym (ap (λ l. pasted l (u + 1) (ends_of v (written f.rest))) (pasted-one m u v writing-slot) ∙ pasted-more m u (v ∷ []) (omega (arith, writing-slot)) (ends_of v (written f.rest)))

      pub writing-next : {n : ℕ} → n ≡ left - 1 → Writing s x n d e v (u + 1) p (set m u v)
      writing-next k =
          let i = bytes_next z.rest f in
          let j = count_left z.rest f in
          let l = length-set m u v in
          let g : w + bytes_left z.rest.all ≡ v + bytes_left f.rest = omega (arith, here-wrote.next) in
          let h : u + length (units z.rest.all) ≡ u + 1 + length (units f.rest) = omega arith in
          record {
            rest = frames-next z.rest f k;
            long = p-long ∙ z.long;
            slots-long = l ∙ z.slots-long;
            small = omega (arith, z.small, here-wrote.next);
            room = omega (arith, z.room, here-wrote.next, p-long);
            slots = omega (arith, z.slots);
            bytes = z.bytes ∙ bytes-then;
            ends = z.ends ∙ ends-then;
            sizes = z.sizes ∙ ap₂ (λ x y. accepted (record { bytes = x; units = y })) g h;
          }

-- ---- what reading comes to

abbrev tally_in : Answer Tally → Tally
tally_in (refused k) = record { frames = 0; bytes = 0 }
tally_in (accepted z) = z

pub surveyed : (s : List ℕ) (n b : ℕ) → length s ≤ limit → accepted (record { frames = n; bytes = b }) ≡ answer tally_of (obus s) → Surveyed s n b
surveyed s n b l e = go (obus s) refl e
  where
    go : (x : Answer (List Obu)) → obus s ≡ x → accepted (record { frames = n; bytes = b }) ≡ answer tally_of x → Surveyed s n b
    go (refused k) q e = let z : ◌≡◌ {A = ℕ} 0 1 = cc in absurd (omega arith)
    go (accepted os) q e =
        let i : n ≡ count is_frame os = ap (λ x. (tally_in x).frames) e in
        let j : b ≡ length (unit_bytes os) = ap (λ x. (tally_in x).bytes) e in
        record { stream = record { short = l; all = os; reads = q; frames = sym i }; bytes = sym j }

answer-refused : {A B : Type 0} (f : A → B) (x : Answer A) (k : ℕ) → answer f x ≡ refused k → x ≡ refused k
answer-refused f (refused j) k e = let q : j ≡ k = cc in ap refused q
answer-refused f (accepted a) k e = let z : ◌≡◌ {A = ℕ} 0 1 = cc in absurd (omega arith)

three : (x y z : Bool) → (x && (y && z)) ≡ true → (x ≡ true) × (y ≡ true) × (z ≡ true)
three true true true e = (refl, refl, refl)
three true true false e = let z : ◌≡◌ {A = ℕ} 0 1 = cc in absurd (omega arith)
three true false z e = let z : ◌≡◌ {A = ℕ} 0 1 = cc in absurd (omega arith)
three false y z e = let z : ◌≡◌ {A = ℕ} 0 1 = cc in absurd (omega arith)

-- data s, lent memory d and e
module _ (s d e : List ℕ) where
  abbrev room : Room
  room = room_in d e

  abbrev pub result : Answer (List (List ℕ))
  result = read stream room s

  -- a refusal leaves lent memory as it was
  abbrev pub ReadRefuses : ℕ → Type 0
  ReadRefuses k = (refused k ≡ sizes_of result) × ((d ≡ bytes_after result d) × (e ≡ ends_after result e))

  refuses : {k : ℕ} → result ≡ refused k → ReadRefuses k
  refuses q = (sym (ap (λ x. sizes_of x) q), (sym (ap (λ x. bytes_after x d) q), sym (ap (λ x. ends_after x e) q)))

  pub read-long : {k : ℕ} → (limit < length s) × (k ≡ 34) → ReadRefuses k
  unfolding read
  read-long (l, q) = refuses (rw (lt-leb (length s) limit l, q))

  module _ (short : length s ≤ limit) where
    read_short : {x : Answer (List (List ℕ))} → stream_units s ≡ x → (y : Answer (List (List ℕ))) → fit_units room x ≡ y → result ≡ y
    unfolding read
    read_short p y q = rw (le-leb (length s) limit short, p) q

    pub read-bad : (k : ℕ) → answer tally_of (obus s) ≡ refused k → ReadRefuses k
    unfolding stream_units
    read-bad k p = refuses (read_short {x = refused k} (rw (answer-refused tally_of (obus s) k p)) (refused k) refl)

    fitted : (x : Answer (List (List ℕ))) (z : Sizes) → sizes_of x ≡ accepted z → fit_units room x ≡ pick (sizes_fit (sizes_of x) room) x (refused 35)
    fitted (refused k) z q = let z : ◌≡◌ {A = ℕ} 0 1 = cc in absurd (omega arith)
    fitted (accepted us) z q = refl

    module _ {n : ℕ} (f : StreamFrames s n) where
      sizes : sizes_of (stream_units s) ≡ accepted (record { bytes = bytes_left f.all; units = length (units f.all) })
      sizes = sizes-are s f.all f.reads

      pub read-full : sizes_fit (sizes_of (stream_units s)) room ≡ false → ReadRefuses 35
      read-full o = refuses (read_short refl (refused 35) (fitted (stream_units s) _ sizes ∙ rw o))

      module _ (o : sizes_fit (sizes_of (stream_units s)) room ≡ true) where
        done : result ≡ stream_units s
        done = read_short refl (stream_units s) (fitted (stream_units s) _ sizes ∙ rw o)

        pub read-room : StreamRoom s n d e
        read-room =
            let b = bytes_left f.all in
            let u = length (units f.all) in
            let l = three (leb b limit) (leb b (length d)) (leb u (length e)) (sym (ap (λ x. sizes_fit x room) sizes) ∙ o) in
            record {
              stream = f;
              small = leb-true b limit l.0;
              room = leb-true b (length d) l.1;
              slots = leb-true u (length e) l.2;
            }

        pub read_done : {b u : ℕ} {p q : List ℕ} → sizes_of (stream_units s) ≡ accepted (record { bytes = b; units = u })
            → p ≡ bytes_after (stream_units s) d → q ≡ ends_after (stream_units s) e
            → (accepted (record { bytes = b; units = u }) ≡ sizes_of result) × ((p ≡ bytes_after result d) × (q ≡ ends_after result e))
        read_done z x y = (sym (ap (λ x. sizes_of x) done ∙ z), (x ∙ sym (ap (λ x. bytes_after x d) done), y ∙ sym (ap (λ x. ends_after x e) done)))

-- ---- whether the units have room

-- they have if all OBUs have
pub roomy-most : {s : List ℕ} {n b : ℕ} (room : Room) → Surveyed s n b → fits b (max n 1) room ≡ true → true ≡ sizes_fit (sizes_of (stream_units s)) room
roomy-most {s} {n} {b} room v k =
    let f = v.stream in
    let l = three (leb b limit) (leb b room.bytes) (leb (max n 1) room.ends) k in
    let w = units-bytes-most f.all in
    let m = units-few f.all in
    let z = v.bytes in
    let c = f.frames in
    let i = le-leb (bytes_left f.all) limit (omega (arith, leb-true b limit l.0)) in
    let j = le-leb (bytes_left f.all) room.bytes (omega (arith, leb-true b room.bytes l.1)) in
    let h = le-leb (length (units f.all)) room.ends (omega (arith, leb-true (max n 1) room.ends l.2)) in
    sym (ap (λ x. sizes_fit x room) (sizes-are s f.all f.reads) ∙ rw (i, j, h))

-- Laws of the units of a list, measured and then gathered in lent memory.
use Prim.Native.Nat.{ℕ, suc, ◌+◌, ◌-◌, ◌^◌, ◌≤◌, ◌<◌}
use native.Mathlib.Omega.{arith}
use native.Mathlib.Numerals.{add-one}
use mathlib.Core.Path.{◌≡◌, refl, sym, ap, ap₂, ◌∙◌}
use mathlib.Core.List.{List, [], ◌∷◌, ◌++◌}
use mathlib.Core.Bool.{Bool, true, false, cond as pick, ◌&&◌}
use lib.ListN.{length, get_or, drop, set, length-append, length-map, length-set, drop_of_length-le}
use lib.Seq.{drop-cons}
use lib.Dec.{leb}
use borrow.Author.Tests.{lt-leb, leb-true, leb-false}
use Rattle.bitio.specs.Limits.{limit, capped}
use Rattle.std.specs.Prelude.{Result, Ok, Err}
use Rattle.bitio.specs.Parse.{Answer, refused, accepted}
use Rattle.bitio.specs.Refusal.{says}
use Rattle.bitio.specs.declared.refusal.Refusal.{Refusal}
use Rattle.bitio.specs.declared.refusal.Refusal.TheVariants.{NoRoom}
use Rattle.bitio.specs.Lent.{pasted}
use Rattle.bitio.proofs.LentLaws.{pasted-nil, pasted-one, pasted-more, pasted_length}
use Rattle.container.specs.Stream.{flat, stream_bytes}
use Rattle.container.specs.Limits.{Room, fits, room_in}
use Rattle.container.specs.Units.{ends_of, sizes_of, bytes_after, ends_after}
use Rattle.container.specs.declared.units.Sizes.{Sizes}
use Rattle.annexb.proofs.SplitLaws.{Says, says-refused}
use Rattle.bitio.proofs.ParseLaws.{and_both}
use Rattle.pictures.specs.Assemble.{named}
use Rattle.playback.specs.Lent.{Does, store_room, store_after}
use Rattle.assemble.specs.declared.unit.UnitList.{UnitList}
use Rattle.playback.specs.Gather.{units_named, units_listed, gathered, HasRoom}

module _ (x : UnitList) where
  -- the units from entry i on
  abbrev pub left : ℕ → List (List ℕ)
  left i = units_named (drop i x.list.now) x.pictures.now x.ends.now x.shows.now

  pub left-next : (i : ℕ) → i < length x.list.now → left i ≡ named x.pictures.now x.ends.now x.shows.now (get_or x.list.now i 0) ∷ left (i + 1)
  unfolding units_named
  left-next i h = rw (drop-cons x.list.now i 0 h, add-one i)

  pub left-none : (i : ℕ) → length x.list.now ≤ i → left i ≡ []
  unfolding units_named
  left-none i h = rw (drop_of_length-le x.list.now h)

  pub listed-length : length (units_listed x) ≡ length x.list.now
  unfolding units_named
  listed-length = length-map x.list.now (named x.pictures.now x.ends.now x.shows.now)

-- ---- measured

-- us are all units, rest those not yet measured, n the bytes of the others
pub record Measuring (us rest : List (List ℕ)) (n : ℕ) : Type 0 where
  pub low : n ≤ 2 ^ 64 - 1
  pub sum : capped (length (stream_bytes us)) ≡ capped (n + length (stream_bytes rest))

pub measuring-start : (us : List (List ℕ)) → Measuring us us 0
measuring-start us = record { low = omega arith; sum = omega arith }

bytes-length : (u : List ℕ) (us : List (List ℕ)) → length (stream_bytes (u ∷ us)) ≡ length u + length (stream_bytes us)
unfolding stream_bytes flat
bytes-length u us = length-append u (flat us)

bytes-none : length (stream_bytes []) ≡ 0
unfolding stream_bytes flat
bytes-none = refl

pub measuring-next : {us all rest : List (List ℕ)} {u v : List ℕ} {n m : ℕ} → Measuring us all n → all ≡ u ∷ rest → v ≡ u → m ≡ capped (n + length v) → Measuring us rest m
measuring-next {rest = rest} {u} {v} z q w k =
    let a = ap (λ x. length (stream_bytes x)) q ∙ bytes-length u rest in
    let b : length v ≡ length u = ap length w in
    record { low = omega (arith, k); sum = omega (arith, z.sum, a, b, k) }

pub measuring-end : {us rest : List (List ℕ)} {n : ℕ} → Measuring us rest n → rest ≡ [] → n ≡ capped (length (stream_bytes us))
measuring-end z q =
    let a = ap (λ x. length (stream_bytes x)) q ∙ bytes-none in
    omega (arith, z.sum, z.low, a)

-- ---- written

-- us are all units, rest those not yet written; lent memory was d and e
pub record Putting (us rest : List (List ℕ)) (d e : List ℕ) (w i : ℕ) (o m : List ℕ) : Type 0 where
  pub long : length o ≡ length d
  pub slots-long : length m ≡ length e
  pub small : w + length (stream_bytes rest) ≤ limit
  pub room : w + length (stream_bytes rest) ≤ length o
  pub slots : i + length rest ≤ length m
  pub bytes : pasted d 0 (stream_bytes us) ≡ pasted o w (stream_bytes rest)
  pub ends : pasted e 0 (ends_of 0 us) ≡ pasted m i (ends_of w rest)

pub putting-start : {us : List (List ℕ)} {d e : List ℕ} → HasRoom (room_in d e) us → Putting us us d e 0 0 d e
putting-start r =
    record {
      long = refl;
      slots-long = refl;
      small = omega (arith, r.small);
      room = omega (arith, r.bytes);
      slots = omega (arith, r.ends);
      bytes = refl;
      ends = refl;
    }

module _ {us all : List (List ℕ)} {d e : List ℕ} {w i : ℕ} {o m : List ℕ} (z : Putting us all d e w i o m) where
  pub putting-end : all ≡ [] → (o ≡ pasted d 0 (stream_bytes us)) × (m ≡ pasted e 0 (ends_of 0 us))
  unfolding stream_bytes flat ends_of
  putting-end q = (
    sym (z.bytes ∙ ap (λ x. pasted o w (stream_bytes x)) q ∙ pasted-nil o w),
    sym (z.ends ∙ ap (λ x. pasted m i (ends_of w x)) q ∙ pasted-nil m i),
  )

  module _ {u v : List ℕ} {rest : List (List ℕ)} (q : all ≡ u ∷ rest) (t : v ≡ u) where
    all-bytes : length (stream_bytes all) ≡ length v + length (stream_bytes rest)
    all-bytes = ap (λ x. length (stream_bytes x)) q ∙ bytes-length u rest ∙ ap (λ x. length x + length (stream_bytes rest)) (sym t)

    all-count : length all ≡ suc (length rest)
    all-count = ap length q

    pub putting-room : w + length v ≤ length o
    putting-room = omega (arith, z.room, all-bytes)

    pub putting-slot : i < length m
    putting-slot = omega (arith, z.slots, all-count)

    module _ {x : ℕ} (k : x ≡ w + length v) where
      pub putting-small : x ≤ limit
      putting-small = omega (arith, z.small, all-bytes, k)

      module _ {p : List ℕ} (g : p ≡ pasted o w v) where
        p-long : length p ≡ length o
        p-long = ap length g ∙ pasted_length o w v putting-room

        bytes-then : pasted o w (stream_bytes all) ≡ pasted p x (stream_bytes rest)
        unfolding stream_bytes flat
        bytes-then =
            ap (λ y. pasted o w (flat y)) q ∙ ap (λ y. pasted o w (y ++ flat rest)) (sym t)
            ∙ sym (ap (λ y. pasted y x (flat rest)) g ∙ ap (λ y. pasted (pasted o w v) y (flat rest)) k ∙ pasted-more o w v (omega (arith, putting-room)) (flat rest))

        x-is : x ≡ w + length u
        x-is = k ∙ ap (λ y. w + length y) t

        ends-then : pasted m i (ends_of w all) ≡ pasted (set m i x) (i + 1) (ends_of x rest)
        unfolding ends_of
        ends-then =
            ap (λ y. pasted m i (ends_of w y)) q
            ∙ ap (λ y. pasted m i (y ∷ ends_of y rest)) (sym x-is)
            ∙ sym (ap (λ y. pasted y (i + 1) (ends_of x rest)) (pasted-one m i x putting-slot) ∙ pasted-more m i (x ∷ []) (omega (arith, putting-slot)) (ends_of x rest))

        pub putting-next : Putting us rest d e x (i + 1) p (set m i x)
        putting-next =
            let n = length-set m i x in
            record {
              long = p-long ∙ z.long;
              slots-long = n ∙ z.slots-long;
              small = omega (arith, z.small, all-bytes, k);
              room = omega (arith, z.room, all-bytes, k, p-long);
              slots = omega (arith, z.slots, all-count, n);
              bytes = z.bytes ∙ bytes-then;
              ends = z.ends ∙ ends-then;
            }

-- ---- the whole

-- the test that the code makes
pub has_room_lem : (room : Room) (us : List (List ℕ)) → fits (length (stream_bytes us)) (length us) room ≡ true → HasRoom room us
has_room_lem room us t =
    let n = length (stream_bytes us) in
    let x = and_both (leb n limit) (leb n room.bytes && leb (length us) room.ends) t in
    let y = and_both (leb n room.bytes) (leb (length us) room.ends) x.1 in
    record { small = leb-true n limit x.0; bytes = leb-true n room.bytes y.0; ends = leb-true (length us) room.ends y.1 }

-- by each slice apart
pub stores : (x : Room → Answer (List (List ℕ))) {r : Result Sizes Refusal} {d m o f : List ℕ} → Says (x (room_in d m)) (says r) d m o f
    → Does (λ d. sizes_of (x (store_room d))) (λ d. store_after (x (store_room d)) d) r (record { entry = record { bytes = d; ends = m }; exit = record { bytes = o; ends = f } })
stores x (i, (j, k)) = record { answer = i; lent = ap₂ (λ b e. record { bytes = b; ends = e }) j k }

module _ (l : UnitList) (d m : List ℕ) where
  abbrev us : List (List ℕ)
  us = units_listed l

  abbrev room : Room
  room = room_in d m

  abbrev result : Answer (List (List ℕ))
  result = gathered us room

  abbrev Gathers : Result Sizes Refusal → (o f : List ℕ) → Type 0
  Gathers r o f = Does (λ d. sizes_of (gathered us (store_room d))) (λ d. store_after (gathered us (store_room d)) d) r (record { entry = record { bytes = d; ends = m }; exit = record { bytes = o; ends = f } })

  abbrev size : ℕ
  size = length (stream_bytes us)

  gathered-is : result ≡ pick (fits size (length us) room) (accepted us) (refused 35)
  unfolding gathered
  gathered-is = refl

  -- what was measured, as far as a usize counts, is tested as the units' own length
  module _ {z : Sizes} (k : z ≡ record { bytes = capped size; units = length l.list.now }) where
    fits-same : fits z.bytes z.units room ≡ fits size (length us) room
    fits-same = ap (λ (y : Sizes). fits y.bytes y.units room) k ∙ go (leb (capped size) limit) refl
      where
        go : (t : Bool) → leb (capped size) limit ≡ t → fits (capped size) (length l.list.now) room ≡ fits size (length us) room
        go true t =
            let i : capped size ≡ size = omega (arith, leb-true (capped size) limit t) in
            ap (λ (x : ℕ). fits x (length l.list.now) room) i ∙ ap (λ (x : ℕ). fits size x room) (sym (listed-length l))
        go false t = rw (t, lt-leb size limit (omega (arith, leb-false (capped size) limit t)))

    pub gather-full : fits z.bytes z.units room ≡ false → Gathers (Err NoRoom) d m
    gather-full t = stores (gathered us) (says-refused d m (gathered-is ∙ ap (λ b. pick b (accepted us) (refused 35)) (sym fits-same ∙ t)))

    module _ (t : fits z.bytes z.units room ≡ true) where
      pub gather-room : HasRoom room us
      gather-room = has_room_lem room us (sym fits-same ∙ t)

      gathered-all : result ≡ accepted us
      gathered-all = gathered-is ∙ ap (λ b. pick b (accepted us) (refused 35)) (sym fits-same ∙ t)

      pub gather-done : {o f : List ℕ} → o ≡ pasted d 0 (stream_bytes us) → f ≡ pasted m 0 (ends_of 0 us) → Gathers (Ok z) o f
      gather-done x y =
          let q = gathered-all in
          let r = gather-room in
          let i : capped size ≡ size = omega (arith, r.small) in
          let j : length l.list.now ≡ length us = sym (listed-length l) in
          stores (gathered us) (rw (q, k, i, j), (x ∙ sym (ap (λ a. bytes_after a d) q), y ∙ sym (ap (λ a. ends_after a m) q)))

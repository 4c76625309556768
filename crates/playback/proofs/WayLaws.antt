-- Laws of the way of a list's units, stage after stage in lent memory.
use Prim.Native.Nat.{ℕ, ◌≤◌}
use native.Mathlib.Omega.{arith}
use mathlib.Core.Path.{◌≡◌, refl, sym, ap, ap₂, ◌∙◌}
use mathlib.Core.List.{List}
use mathlib.Core.Bool.{Bool, true, false, cond as pick, ◌&&◌}
use lib.ListN.{length, take}
use lib.Dec.{leb}
use borrow.Author.Tests.{le-leb, leb-true}
use Rattle.bitio.specs.Limits.{limit}
use Rattle.std.specs.Prelude.{Result, Ok, Err}
use Rattle.bitio.specs.Parse.{Answer, refused, accepted, and_next}
use Rattle.bitio.specs.Refusal.{number}
use Rattle.bitio.specs.declared.refusal.Refusal.{Refusal}
use Rattle.bitio.specs.Lent.{pasted}
use Rattle.bitio.proofs.LentLaws.{pasted-front, pasted_length}
use Rattle.container.specs.Stream.{stream_bytes}
use Rattle.container.specs.Limits.{Room, bytes_room, fits, fit_bytes, fit_units}
use Rattle.container.specs.Units.{ends_of, sizes_of, bytes_after, ends_after, count_of, out_after}
use Rattle.container.specs.declared.units.Sizes.{Sizes}
use Rattle.container.specs.Container.{Container, units_in, bytes_in, read, write, write_at}
use Rattle.bitio.proofs.ParseLaws.{and_both}
use Rattle.playback.specs.Lent.{Fills, Store, store_room, store_after, Stores}
use Rattle.playback.specs.Gather.{gathered, HasRoom}
use Rattle.playback.specs.Shown.{Shows, from_cue, play_from}
use Rattle.playback.specs.Way.{WriteLent, CarryLent, written, Writes, carried_units, Carries, shown, Plays}
use Rattle.playback.proofs.GatherLaws.{has_room_lem}
use Rattle.playback.proofs.ShownLaws.{none-cut}
use Rattle.container.proofs.LentLaws.{units-there, lent-write}
use Rattle.container.proofs.ListLaws.{ends-length}

-- ---- what is accepted has room

fit-units : (room : Room) (x : Answer (List (List ℕ))) (us : List (List ℕ)) → fit_units room x ≡ accepted us → HasRoom room us
fit-units room (refused k) us q = absurd (none-cut q)
fit-units room (accepted vs) us q = go (fits (length (stream_bytes vs)) (length vs) room) refl q
  where
    go : (b : Bool) → fits (length (stream_bytes vs)) (length vs) room ≡ b → pick b (accepted vs) (refused 35) ≡ accepted us → HasRoom room us
    go false t q = absurd (none-cut q)
    go true t q = let e : vs ≡ us = cc in rw (← e) (has_room_lem room vs t)

fit-bytes : (room : Room) (x : Answer (List ℕ)) (bs : List ℕ) → fit_bytes room x ≡ accepted bs → length bs ≤ room.bytes
fit-bytes room (refused k) bs q = absurd (none-cut q)
fit-bytes room (accepted xs) bs q = go (fits (length xs) 0 room) refl q
  where
    go : (b : Bool) → fits (length xs) 0 room ≡ b → pick b (accepted xs) (refused 35) ≡ accepted bs → length bs ≤ room.bytes
    go false t q = absurd (none-cut q)
    go true t q =
        let e : xs ≡ bs = cc in
        let x = and_both (leb (length xs) limit) (leb (length xs) room.bytes && leb 0 room.ends) t in
        let y = and_both (leb (length xs) room.bytes) (leb 0 room.ends) x.1 in
        rw (← e) (leb-true (length xs) room.bytes y.0)

-- 34 apart
led : {A : Type 0} (b : Bool) (x : Answer A) (a : A) → pick b x (refused 34) ≡ accepted a → x ≡ accepted a
led true x a q = q
led false x a q = absurd (none-cut q)

read_fits : (c : Container) (room : Room) (s : List ℕ) (us : List (List ℕ)) → read c room s ≡ accepted us → HasRoom room us
unfolding read
read_fits c room s us q = fit-units room (units_in c s) us (led (leb (length s) limit) (fit_units room (units_in c s)) us q)

write-fits : (c : Container) (room : Room) (us : List (List ℕ)) (bs : List ℕ) → write c room us ≡ accepted bs → length bs ≤ room.bytes
unfolding write
write-fits c room us bs q = fit-bytes room (bytes_in c us) bs (led (leb (length (stream_bytes us)) limit) (fit_bytes room (bytes_in c us)) bs q)

gathered-fits : (us : List (List ℕ)) (room : Room) (vs : List (List ℕ)) → gathered us room ≡ accepted vs → HasRoom room vs
unfolding gathered
gathered-fits us room vs q = fit-units room (accepted us) vs q

-- ---- what the answers say

pub record UnitsSized (x : Answer (List (List ℕ))) (s : Sizes) : Type 0 where
  pub units : List (List ℕ)
  pub are : x ≡ accepted units
  pub bytes : s.bytes ≡ length (stream_bytes units)
  pub count : s.units ≡ length units

units-some : (x : Answer (List (List ℕ))) (s : Sizes) → accepted s ≡ sizes_of x → UnitsSized x s
units-some (refused k) s q = absurd (none-cut (sym q))
units-some (accepted us) s q =
    let z : s ≡ record { bytes = length (stream_bytes us); units = length us } = cc in
    record { units = us; are = refl; bytes = ap (λ (y : Sizes). y.bytes) z; count = ap (λ (y : Sizes). y.units) z }

units-none : (x : Answer (List (List ℕ))) (k : ℕ) → refused k ≡ sizes_of x → x ≡ refused k
units-none (refused j) k q = let z : j ≡ k = cc in ap refused z
units-none (accepted us) k q = absurd (none-cut q)

bytes-some : (x : Answer (List ℕ)) (n : ℕ) → accepted n ≡ count_of x → (bs : List ℕ) × (x ≡ accepted bs) × (n ≡ length bs)
bytes-some (refused k) n q = absurd (none-cut (sym q))
bytes-some (accepted bs) n q = (bs, refl, cc)

bytes-none : (x : Answer (List ℕ)) (k : ℕ) → refused k ≡ count_of x → x ≡ refused k
bytes-none (refused j) k q = let z : j ≡ k = cc in ap refused z
bytes-none (accepted bs) k q = absurd (none-cut q)

-- ---- what stands at the head of lent memory

-- units put in the store d, which are sized s
module _ (x : Answer (List (List ℕ))) (d : Store) (fit : (us : List (List ℕ)) → x ≡ accepted us → HasRoom (store_room d) us)
    (s : Sizes) (q : accepted s ≡ sizes_of x) (d' : Store) (p : d' ≡ store_after x d) where
  sized : UnitsSized x s
  sized = units-some x s q

  room-is : HasRoom (store_room d) sized.units
  room-is = fit sized.units sized.are

  bytes-are : d'.bytes ≡ pasted d.bytes 0 (stream_bytes sized.units)
  bytes-are = ap (λ (y : Store). y.bytes) p ∙ ap (λ y. bytes_after y d.bytes) sized.are

  ends-are : d'.ends ≡ pasted d.ends 0 (ends_of 0 sized.units)
  ends-are = ap (λ (y : Store). y.ends) p ∙ ap (λ y. ends_after y d.ends) sized.are

  bytes-long : s.bytes ≤ length d'.bytes
  bytes-long = omega (arith, ap length bytes-are, pasted_length d.bytes 0 (stream_bytes sized.units) (omega (arith, room-is.bytes)), sized.bytes, room-is.bytes)

  ends-long : s.units ≤ length d'.ends
  ends-long =
      let k = ends-length 0 sized.units in
      omega (arith, ap length ends-are, pasted_length d.ends 0 (ends_of 0 sized.units) (omega (arith, room-is.ends)), sized.count, room-is.ends)

  bytes-head : take s.bytes d'.bytes ≡ stream_bytes sized.units
  bytes-head = ap (λ y. take s.bytes y) bytes-are ∙ pasted-front d.bytes (stream_bytes sized.units) s.bytes sized.bytes

  ends-head : take s.units d'.ends ≡ ends_of 0 sized.units
  ends-head = ap (λ y. take s.units y) ends-are ∙ pasted-front d.ends (ends_of 0 sized.units) s.units (omega (arith, sized.count, ends-length 0 sized.units))

-- ---- the stages

module _ (c : Container) (us : List (List ℕ)) where
  -- gathered
  module _ (d d' : Store) (o : List ℕ) where
    abbrev W : Answer (List ℕ)
    W = written c us (record { units = d; out = o })

    written-some : {vs : List (List ℕ)} → gathered us (store_room d) ≡ accepted vs → write c (bytes_room (length o)) vs ≡ W
    unfolding written and_next
    written-some q = rw q

    pub write-stop : (e : Refusal) → Stores (gathered us) (Err e) (record { entry = d; exit = d' })
        → Writes c us (Err e) (record { entry = record { units = d; out = o }; exit = record { units = d'; out = o } })
    unfolding written and_next
    write-stop e w =
        let z : W ≡ refused (number e) = rw (units-none (gathered us (store_room d)) (number e) w.answer) in
        record { answer = sym (ap (λ i. count_of i) z); lent = ap₂ (λ i j. record { units = i; out = j }) w.lent (sym (ap (λ i. out_after i o) z)) }

    module _ (s : Sizes) (w : Stores (gathered us) (Ok s) (record { entry = d; exit = d' })) where
      pub write-long : s.bytes ≤ length d'.bytes
      write-long = bytes-long (gathered us (store_room d)) d (gathered-fits us (store_room d)) s w.answer d' w.lent

      pub write-slots : s.units ≤ length d'.ends
      write-slots = ends-long (gathered us (store_room d)) d (gathered-fits us (store_room d)) s w.answer d' w.lent

      whole : write_at c (bytes_room (length o)) (take s.bytes d'.bytes) (take s.units d'.ends) ≡ W
      whole =
          let z = sized (gathered us (store_room d)) d (gathered-fits us (store_room d)) s w.answer d' w.lent in
          ap₂ (λ i j. write_at c (bytes_room (length o)) i j)
          (bytes-head (gathered us (store_room d)) d (gathered-fits us (store_room d)) s w.answer d' w.lent)
          (ends-head (gathered us (store_room d)) d (gathered-fits us (store_room d)) s w.answer d' w.lent)
          ∙ lent-write c (bytes_room (length o)) z.units ∙ written-some z.are

      pub write-go : (o' : List ℕ) (r : Result ℕ Refusal)
          → Fills (λ m. write_at c (bytes_room m) (take s.bytes d'.bytes) (take s.units d'.ends)) r (record { entry = o; exit = o' })
          → Writes c us r (record { entry = record { units = d; out = o }; exit = record { units = d'; out = o' } })
      write-go o' r f =
          record { answer = f.answer ∙ ap (λ i. count_of i) whole; lent = ap₂ (λ i j. record { units = i; out = j }) w.lent (f.lent ∙ ap (λ i. out_after i o) whole) }

  -- written
  module _ (d d' : WriteLent) (b : Store) where
    abbrev R : Answer (List (List ℕ))
    R = carried_units c us (record { written = d; back = b })

    carried_some : {bs : List ℕ} → written c us d ≡ accepted bs → read c (store_room b) bs ≡ R
    unfolding carried_units and_next
    carried_some q = rw q

    pub carry-stop : (e : Refusal) → Writes c us (Err e) (record { entry = d; exit = d' })
        → Carries c us (Err e) (record { entry = record { written = d; back = b }; exit = record { written = d'; back = b } })
    unfolding carried_units and_next
    carry-stop e w =
        let z : R ≡ refused (number e) = rw (bytes-none (written c us d) (number e) w.answer) in
        record { answer = sym (ap (λ i. sizes_of i) z); lent = ap₂ (λ i j. record { written = i; back = j }) w.lent (sym (ap (λ i. store_after i b) z)) }

    module _ (n : ℕ) (w : Writes c us (Ok n) (record { entry = d; exit = d' })) where
      bytes_fit : (bs : List ℕ) → written c us d ≡ accepted bs → length bs ≤ length d.out
      unfolding written and_next
      bytes_fit bs q = go (gathered us (store_room d.units)) q
        where
          go : (x : Answer (List (List ℕ))) → and_next x (write c (bytes_room (length d.out))) ≡ accepted bs → length bs ≤ length d.out
          go (refused k) q = absurd (none-cut q)
          go (accepted vs) q = write-fits c (bytes_room (length d.out)) vs bs q

      out-is : (bs : List ℕ) → written c us d ≡ accepted bs → d'.out ≡ pasted d.out 0 bs
      out-is bs q = ap (λ (y : WriteLent). y.out) w.lent ∙ ap (λ i. out_after i d.out) q

      pub carry-long : n ≤ length d'.out
      carry-long =
          let (bs, q, e) = bytes-some (written c us d) n w.answer in
          let f = bytes_fit bs q in
          omega (arith, ap length (out-is bs q), pasted_length d.out 0 bs (omega (arith, f)), e, f)

      back_whole : read c (store_room b) (take n d'.out) ≡ R
      back_whole =
          let (bs, q, e) = bytes-some (written c us d) n w.answer in
          ap (λ i. read c (store_room b) i) (ap (λ i. take n i) (out-is bs q) ∙ pasted-front d.out bs n e) ∙ carried_some q

      pub carry-go : (b' : Store) (r : Result Sizes Refusal) → Stores (λ room. read c room (take n d'.out)) r (record { entry = b; exit = b' })
          → Carries c us r (record { entry = record { written = d; back = b }; exit = record { written = d'; back = b' } })
      carry-go b' r f =
          record { answer = f.answer ∙ ap (λ i. sizes_of i) back_whole; lent = ap₂ (λ i j. record { written = i; back = j }) w.lent (f.lent ∙ ap (λ i. store_after i b) back_whole) }

  -- read back
  module _ (d d' : CarryLent) (cue : ℕ) (g : Shows) where
    abbrev S : Answer Shows
    S = shown c us cue (record { carried = d; shown = g })

    shown-some : {vs : List (List ℕ)} → carried_units c us d ≡ accepted vs → from_cue (length g) cue vs ≡ S
    unfolding shown and_next
    shown-some q = rw q

    pub show-stop : (e : Refusal) → Carries c us (Err e) (record { entry = d; exit = d' })
        → Plays c us cue (Err e) (record { entry = record { carried = d; shown = g }; exit = record { carried = d'; shown = g } })
    unfolding shown and_next
    show-stop e w =
        let z : S ≡ refused (number e) = rw (units-none (carried_units c us d) (number e) w.answer) in
        record { answer = sym (ap (λ i. count_of i) z); lent = ap₂ (λ i j. record { carried = i; shown = j }) w.lent (sym (ap (λ i. out_after i g) z)) }

    module _ (s : Sizes) (w : Carries c us (Ok s) (record { entry = d; exit = d' })) where
      back_fits : (vs : List (List ℕ)) → carried_units c us d ≡ accepted vs → HasRoom (store_room d.back) vs
      unfolding carried_units and_next
      back_fits vs q = go (written c us d.written) q
        where
          go : (x : Answer (List ℕ)) → and_next x (read c (store_room d.back)) ≡ accepted vs → HasRoom (store_room d.back) vs
          go (refused k) q = absurd (none-cut q)
          go (accepted bs) q = read_fits c (store_room d.back) bs vs q

      back_is : d'.back ≡ store_after (carried_units c us d) d.back
      back_is = ap (λ (y : CarryLent). y.back) w.lent

      pub show-long : s.bytes ≤ length d'.back.bytes
      show-long = bytes-long (carried_units c us d) d.back back_fits s w.answer d'.back back_is

      pub show-slots : s.units ≤ length d'.back.ends
      show-slots = ends-long (carried_units c us d) d.back back_fits s w.answer d'.back back_is

      played : (vs : List (List ℕ)) → HasRoom (store_room d.back) vs → play_from (length g) cue (stream_bytes vs) (ends_of 0 vs) ≡ from_cue (length g) cue vs
      unfolding play_from stream_bytes and_next
      played vs f = rw (le-leb (length (stream_bytes vs)) limit f.small, units-there 0 vs)

      shown-whole : play_from (length g) cue (take s.bytes d'.back.bytes) (take s.units d'.back.ends) ≡ S
      shown-whole =
          let z = sized (carried_units c us d) d.back back_fits s w.answer d'.back back_is in
          ap₂ (λ i j. play_from (length g) cue i j)
          (bytes-head (carried_units c us d) d.back back_fits s w.answer d'.back back_is)
          (ends-head (carried_units c us d) d.back back_fits s w.answer d'.back back_is)
          ∙ played z.units (back_fits z.units z.are) ∙ shown-some z.are

      pub show-go : (g' : Shows) (r : Result ℕ Refusal)
          → Fills (λ room. play_from room cue (take s.bytes d'.back.bytes) (take s.units d'.back.ends)) r (record { entry = g; exit = g' })
          → Plays c us cue r (record { entry = record { carried = d; shown = g }; exit = record { carried = d'; shown = g' } })
      show-go g' r f =
          record { answer = f.answer ∙ ap (λ i. count_of i) shown-whole; lent = ap₂ (λ i j. record { carried = i; shown = j }) w.lent (f.lent ∙ ap (λ i. out_after i g) shown-whole) }

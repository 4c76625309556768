-- Demand 3: the whole way from the segments to the last unit played. specs/Demand.antt says what is claimed.
use Prim.Native.Nat.{ℕ, ◌-◌, ◌≤◌, ◌<◌}
use native.Mathlib.Omega.{arith}
use mathlib.Core.Path.{◌≡◌, refl, sym, subst}
use mathlib.Core.List.{List, map}
use lib.ListN.{length, take, drop}
use lib.Seq.{length-take-le}
use Rattle.bitio.specs.Parse.{accepted}
use Rattle.bitio.specs.Limits.{limit}
use Rattle.bitio.specs.Every.{Every}
use Rattle.bitio.specs.Every.Every.{nothing, also}
use Rattle.container.specs.Limits.{Room}
use Rattle.container.specs.Container.{Container, read, write}
use Rattle.container.proofs.RoundTrip.{Whole}
use Rattle.container.proofs.Carry.{carried}
use Rattle.blocks.proofs.BlockLaws.{length-layout}
use Rattle.blocks.specs.Blocks.{Entry, number, layout, total}
use Rattle.pictures.specs.Segments.{Segment, frames_of, segments_of}
use Rattle.pictures.specs.declared.settings.Settings.{Settings}
use Rattle.pictures.specs.Assemble.{made, picture_of, Output, OutputRoom, assemble, units_of}
use Rattle.player.specs.Player.{start}
use Rattle.demand.specs.Premises.{Premise, Formed, Premises, InFields}
use Rattle.demand.specs.Courses.{Course, Throughout}
use Rattle.demand.specs.Demand.{Given, handed, front, PlaysRight, ReadBack, Demand, Demand3}
use Rattle.demand.proofs.Following.{Following, following-take}
use Rattle.demand.proofs.BlockLaws.{following-layout}
use Rattle.bitio.proofs.ParseLaws.{map-take}
use Rattle.demand.proofs.HandedLaws.{unit_by, given_out, UnitsWithin, picture-short}
use Rattle.container.proofs.LentLaws.{lent-write}
use Rattle.demand.proofs.UnitLaws.{whole}
use Rattle.demand.proofs.AssembleLaws.{Boards, Made, out, acceptance-gives}
use Rattle.demand.proofs.Turns.{length-units, listed, all-units, named-units, cue-is, exactly, starts, carries, rising, played}

all_whole : (s : List ℕ) {us : List (List ℕ)} → Every (Premise s) us → Every Whole us
all_whole s nothing = nothing
all_whole s (also {a = u} w ws) = also (whole s u w) (all_whole s ws)

-- ---- of any blocks

module _ (set : Settings) (xs : List Segment) (m : Boards set xs) (short : UnitsWithin limit m.prepared) (es : List Entry) (follows : Following (frames_of xs) es) where
  abbrev vs : List (List ℕ)
  vs = map (unit_by m.prepared) es

  wholes : Every Whole vs
  wholes = all_whole m.payload (all-units set xs m short es follows)

  module _ (some : 1 ≤ length es) where
    some-units : 0 < length vs
    some-units = omega (arith, length-units set xs m short es follows)

    -- what was written reads back as the list's units
    same_units : (c : Container) (room room' : Room) (bs : List ℕ) (us : List (List ℕ)) → write c room vs ≡ accepted bs → read c room' bs ≡ accepted us → us ≡ vs
    same_units c room room' bs us w r = rw r at (rw w at (carried vs wholes some-units c room room'))

    back : (us : List (List ℕ)) → ReadBack vs us → us ≡ vs
    back us w = same_units w.container w.room w.room' w.bytes us w.written w.read_back

    pub demand : Demand set xs es (length es) (given_out m.prepared es)
    demand =
        record {
          header = m.first;
          reads = m.first-is;
          starts = starts set xs m short es follows some;
          carries = carries set xs m short es follows;
          entries = refl;
          count = length-units set xs m short es follows;
          units = listed set xs m short es follows;
          lent = λ c room. lent-write c room vs;
          writing = λ c room n w. rw w at (carried vs wholes some-units c room room);
          reading = λ c room room' bs w n r. rw r at (rw w at (carried vs wholes some-units c room room'));
          back = back;
          cues = cue-is set xs m short es follows;
          exactly = exactly set xs m short es follows;
          rising = rising set xs m short es follows;
          played = λ us w cue k.
              subst (λ (vs : List (List ℕ)). (course : Course start cue (drop (cue - 1) vs)) → Throughout (λ p st. PlaysRight set m.first xs vs cue p st) course)
              (sym (back us w)) (played set xs m short es follows cue k);
        }

-- and of the first of them, as many as have been given
pub demand-front : (set : Settings) (xs : List Segment) (m : Boards set xs) (short : UnitsWithin limit m.prepared) (es : List Entry) (follows : Following (frames_of xs) es)
    → (n : ℕ) → 1 ≤ n → n ≤ length es → Demand set xs (take n es) n (front n (given_out m.prepared es))
demand-front set xs m short es follows n lo hi =
    let k : length (take n es) ≡ n = length-take-le n es hi in
    let d = demand set xs m short (take n es) (following-take follows n) (omega arith) in
    rw (map-take number n es, map-take (unit_by m.prepared) n es, k) at d

-- ---- of what assembly hands out

module _ (set : Settings) (xs : List Segment) (m : Made set xs) (small : length (picture_of m.boards.prepared) ≤ limit) where
  abbrev es : List Entry
  es = layout set.gop 0 (frames_of xs)

  short : UnitsWithin limit m.boards.prepared
  short = picture-short m.boards.prepared limit small

  follows-here : Following (frames_of xs) es
  follows-here = following-layout set.gop (frames_of xs) (omega (arith, m.gop-two))

  size : length es ≡ total (frames_of xs)
  size = length-layout set.gop 0 (frames_of xs) (omega (arith, m.gop-two))

  given_is : given_out m.boards.prepared es ≡ handed (out m)
  unfolding units_of
  given_is = rw (named-units set xs m.boards short es follows-here)

  whole-list : Demand3 set xs (out m)
  whole-list = rw (given_is, size) at (demand set xs m.boards short es follows-here (omega (arith, size, m.total-two)))

  first-units : (n : ℕ) → 1 ≤ n → n ≤ total (frames_of xs) → Demand set xs (take n es) n (front n (handed (out m)))
  first-units n lo hi = subst (λ (g : Given). Demand set xs (take n es) n (front n g)) given_is (demand-front set xs m.boards short es follows-here n lo (omega (arith, size)))

-- For all picture bytes and numbers that give the segments xs, whose keys and goldens are in the form that demand 3 asks for, all rooms and all settings:
-- if assembly accepts and hands out r, then all that demand 3 claims holds of r. A decoder model may be there.
module _ (room : OutputRoom) (set : Settings) (picture numbers : List ℕ) (xs : List Segment) (r : Output)
    (fields : InFields set) (segments : segments_of picture numbers ≡ accepted xs) (formed : Formed xs) (accepts-it : assemble room set picture numbers ≡ made r) where
  pub demand3-formed : Demand3 set xs r
  demand3-formed =
      let (m, o, n) = acceptance-gives room set picture numbers xs r fields segments formed accepts-it in
      subst (Demand3 set xs) o (whole-list set xs m (rw (← o) at n))

  -- and of its first n units
  pub demand3-front : (n : ℕ) → 1 ≤ n → n ≤ total (frames_of xs) → Demand set xs (take n (layout set.gop 0 (frames_of xs))) n (front n (handed r))
  demand3-front =
      let (m, o, n) = acceptance-gives room set picture numbers xs r fields segments formed accepts-it in
      subst (λ (r : Output). (n : ℕ) → 1 ≤ n → n ≤ total (frames_of xs) → Demand set xs (take n (layout set.gop 0 (frames_of xs))) n (front n (handed r))) o
      (first-units set xs m (rw (← o) at n))

-- Demand 3 as ordered, with the premise that there is no decoder model.
pub demand3 : (room : OutputRoom) (set : Settings) (picture numbers : List ℕ) (xs : List Segment) (r : Output)
    → InFields set → segments_of picture numbers ≡ accepted xs → Premises xs
    → assemble room set picture numbers ≡ made r
    → Demand3 set xs r
demand3 room set picture numbers xs r fields segments premises = demand3-formed room set picture numbers xs r fields segments premises.formed

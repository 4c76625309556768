-- Laws of what is written: how much there is, that it output_fits, and that it is what assembly hands out.
use Prim.Native.Nat.{ℕ, ◌+◌, ◌≤◌, ◌<◌}
use native.Mathlib.Omega.{arith}
use mathlib.Core.Path.{◌≡◌, refl, ◌∙◌}
use mathlib.Core.List.{List}
use mathlib.Core.Bool.{Bool, true, false, ◌&&◌}
use lib.ListN.{length, length-map}
use lib.Dec.{leb}
use borrow.Author.Tests.{lt-leb, leb-true, leb-false}
use Rattle.bitio.specs.Limits.{limit, capped}
use Rattle.obu.specs.Obu.{passes}
use Rattle.obu.specs.Write.{obu_length, obu}
use Rattle.obu.proofs.LengthLaws.{obu-length}
use Rattle.bitio.proofs.ParseLaws.{and_both}
use Rattle.blocks.specs.Blocks.{layout, number, list_of, total}
use Rattle.pictures.specs.Assemble.{Output, OutputRoom, output_fits}
use Rattle.assemble.specs.code.Stages.{header_in, extension_in, payload_in, fits_in}
use Rattle.assemble.specs.declared.multi.Counts.{Counts}
use Rattle.assemble.specs.declared.headers.Headers.{Headers}
use Rattle.blocks.proofs.BlockLaws.{length-layout}

-- ---- the header OBU

pub one_passes : passes 1 ≡ true
unfolding passes
one_passes = refl

-- how many bytes it has
pub header_length : (s rs : List ℕ) (h : Headers) → length (header_in s rs h) ≡ obu_length (extension_in h) (length (payload_in s rs h))
unfolding header_in
header_length s rs h = obu-length (obu 1 (extension_in h) (payload_in s rs h))

-- ---- how much there is

pub length-list : (gop : ℕ) (ns : List ℕ) → 1 ≤ gop → length (list_of gop ns) ≡ total ns
length-list gop ns g = length-map (layout gop 0 ns) number ∙ length-layout gop 0 ns g

pub units-are : (gop : ℕ) (ns : List ℕ) (r : ℕ) → 1 ≤ gop → total ns ≤ 5000000 → r ≡ capped (total ns) → r ≡ length (list_of gop ns)
units-are gop ns r g t e = let l = length-list gop ns g in omega arith

-- counts that agree in each number
pub same-counts : {u u' c c' p p' e e' w w' h h' g g' : ℕ} → u ≡ u' → c ≡ c' → p ≡ p' → e ≡ e' → w ≡ w' → h ≡ h' → g ≡ g'
    → ◌≡◌ {A = Counts} (record { units = u; cues = c; picture = p; ends = e; shows = w; header = h; golden_slot = g })
    (record { units = u'; cues = c'; picture = p'; ends = e'; shows = w'; header = h'; golden_slot = g' })
same-counts a b d i j k l = rw (a, b, d, i, j, k, l)

-- ---- room

pub over_limit : (room : OutputRoom) (n : Counts) → limit < n.picture + n.shows + n.header → false ≡ fits_in room n
unfolding fits_in
over_limit room n h = rw (lt-leb (n.picture + n.shows + n.header) limit h)

-- picture bytes and the header counted as far as a usize counts are judged alike
module _ (room : OutputRoom) (n : Counts) (o : Output) (u : n.units ≡ length o.list) (c : n.cues ≡ length o.cues) (p : n.picture ≡ capped (length o.picture))
    (e : n.ends ≡ length o.ends) (w : n.shows ≡ length o.shows) (h : n.header ≡ capped (length o.header)) where
  abbrev all_bytes : ℕ
  all_bytes = length o.picture + length o.shows + length o.header

  pub fits-same : fits_in room n ≡ output_fits room o
  unfolding fits_in output_fits
  fits-same = go (leb all_bytes limit) refl
    where
      go : (t : Bool) → leb all_bytes limit ≡ t
          → (leb (n.picture + n.shows + n.header) limit && leb n.units room.list && leb n.cues room.cues && leb n.picture room.picture && leb n.ends room.ends && leb n.shows room.shows && leb n.header room.header)
          ≡ (leb all_bytes limit && leb (length o.list) room.list && leb (length o.cues) room.cues && leb (length o.picture) room.picture && leb (length o.ends) room.ends && leb (length o.shows) room.shows && leb (length o.header) room.header)
      go true t =
          let l = leb-true all_bytes limit t in
          let i : n.picture ≡ length o.picture = omega (arith, l, p) in
          let j : n.header ≡ length o.header = omega (arith, l, h) in
          rw (u, c, i, e, w, j)
      go false t =
          let l = leb-false all_bytes limit t in
          let m : limit < n.picture + n.shows + n.header = omega (arith, l, p, h, w) in
          rw (lt-leb (n.picture + n.shows + n.header) limit m, t)

-- each buffer has room
pub record RoomForAll (room : OutputRoom) (o : Output) : Type 0 where
  pub bytes : length o.picture + length o.shows + length o.header ≤ limit
  pub list : length o.list ≤ room.list
  pub cues : length o.cues ≤ room.cues
  pub picture : length o.picture ≤ room.picture
  pub ends : length o.ends ≤ room.ends
  pub shows : length o.shows ≤ room.shows
  pub header : length o.header ≤ room.header

pub fits-roomy : (room : OutputRoom) (o : Output) → output_fits room o ≡ true → RoomForAll room o
unfolding output_fits
fits-roomy room o g =
    let (g, g7) = and_both _ _ g in
    let (g, g6) = and_both _ _ g in
    let (g, g5) = and_both _ _ g in
    let (g, g4) = and_both _ _ g in
    let (g, g3) = and_both _ _ g in
    let (g1, g2) = and_both (leb (length o.picture + length o.shows + length o.header) limit) _ g in
    record {
      bytes = leb-true _ _ g1;
      list = leb-true _ _ g2;
      cues = leb-true _ _ g3;
      picture = leb-true _ _ g4;
      ends = leb-true _ _ g5;
      shows = leb-true _ _ g6;
      header = leb-true _ _ g7;
    }

-- Laws of the file: whether it is whole, and what is read from it.
use Prim.Native.Nat.{ℕ, ◌+◌, ◌*◌, ◌/◌, ◌≤◌, ◌<◌}
use native.Mathlib.Omega.{arith}
use mathlib.Core.Path.{◌≡◌, refl, sym, ap, ap₂, ◌∙◌}
use mathlib.Core.List.{List}
use mathlib.Core.Bool.{Bool, true, false, cond as pick, ◌&&◌}
use Rattle.std.specs.Prelude.{Some, None, Result, Ok, Err}
use Rattle.std.specs.Result.{OkIff, result_ok}
use Rattle.std.proofs.lemmas.Result.{OkIff-at_ok, OkIff-at_err}
use lib.ListN.{length}
use lib.Dec.{leb, eqb}
use borrow.Author.Tests.{le-leb, lt-leb, eq-eqb, leb-true, eqb-true}
use Rattle.bitio.specs.Lent.{pasted, has_room}
use Rattle.bitio.proofs.ParseLaws.{and_both}
use Rattle.bitio.proofs.LentLaws.{pasted_length, lent-room, lent-full}
use Rattle.blocks.specs.Numbers.{width}
use Rattle.listing.specs.declared.file.Layout.{Layout}
use Rattle.listing.specs.File.{number_at, u32_at, picture_count, file_segments, segments_at, settings_at, gop_at, fps_at, den_at, units_length, file_numbers_from, file_numbers, is_file, layout_of, layout_in, bad, full, read_layout, read_into, file_numbers_after, Records, FileSized, LayoutFits}
use Rattle.listing.proofs.NumberLaws.{numbers_length}

-- ---- whether the file is whole

-- all that is asked of it
pub record FileTests (s : List ℕ) : Type 0 where
  pub small : length s ≤ 65536
  pub sized : length s ≡ settings_at s + 28
  pub three : u32_at s (settings_at s) ≡ 3
  pub filled : units_length s (file_segments s) (segments_at s) ≡ picture_count s
  pub fps : fps_at s ≤ 4294967295
  pub den : den_at s ≤ 4294967295

module _ (s : List ℕ) where
  passed : FileTests s → is_file s ≡ true
  unfolding is_file
  passed t =
      rw (
        le-leb (length s) 65536 t.small,
        eq-eqb (length s) (settings_at s + 28) t.sized,
        eq-eqb (u32_at s (settings_at s)) 3 t.three,
        eq-eqb (units_length s (file_segments s) (segments_at s)) (picture_count s) t.filled,
        le-leb (fps_at s) 4294967295 t.fps,
        le-leb (den_at s) 4294967295 t.den,
      )

  tests : is_file s ≡ true → FileTests s
  unfolding is_file
  tests w =
      let a = leb (length s) 65536 in
      let b = eqb (length s) (settings_at s + 28) in
      let c = eqb (u32_at s (settings_at s)) 3 in
      let d = eqb (units_length s (file_segments s) (segments_at s)) (picture_count s) in
      let e = leb (fps_at s) 4294967295 in
      let v = and_both (a && b && c && d && e) (leb (den_at s) 4294967295) w in
      let x = and_both (a && b && c && d) e v.0 in
      let y = and_both (a && b && c) d x.0 in
      let z = and_both (a && b) c y.0 in
      let t = and_both a b z.0 in
      record {
        small = leb-true (length s) 65536 t.0;
        sized = eqb-true (length s) (settings_at s + 28) t.1;
        three = eqb-true (u32_at s (settings_at s)) 3 z.1;
        filled = eqb-true (units_length s (file_segments s) (segments_at s)) (picture_count s) y.1;
        fps = leb-true (fps_at s) 4294967295 x.1;
        den = leb-true (den_at s) 4294967295 v.1;
      }

  pub is_whole : FileTests s → Some (layout_of s) ≡ layout_in s
  is_whole t = rw (passed t) refl

  pub not_whole : (FileTests s → ⊥) → None ≡ layout_in s
  not_whole h = go (is_file s) refl
    where
      go : (b : Bool) → is_file s ≡ b → None ≡ pick b (Some (layout_of s)) None
      go true w = absurd (h (tests w))
      go false w = refl

-- ---- a number that should fit a u32

-- it does, and is as it was
pub narrow : {E : Type 0} (r : Result ℕ E) {v x : ℕ} → OkIff r (v < 4294967296) v → Some x ≡ result_ok r → (v < 4294967296) × (x ≡ v)
narrow {E} (Ok y) {v} o e = let w : (v < 4294967296) × (y ≡ v) = OkIff-at_ok {T = ℕ} {E = E} (Ok y) (v < 4294967296) v y o refl in (w.0, cc)
narrow (Err z) o e = cc

pub wide : {E : Type 0} (r : Result ℕ E) {v : ℕ} → OkIff r (v < 4294967296) v → None ≡ result_ok r → v < 4294967296 → ⊥
wide (Ok y) o e h = cc
wide {E} (Err z) {v} o e h = OkIff-at_err {T = ℕ} {E = E} (Err z) (v < 4294967296) v z o refl h

-- ---- the settings of a file that is as long as its sections

abbrev lay : (picture count gop fps den : ℕ) → Layout
lay picture count gop fps den = record { start = 4; end = 4 + picture; segments = count; settings = record { gop = gop; fps = fps; den = den } }

module _ {s : List ℕ} {picture count : ℕ} (z : FileSized s picture count) where
  at_settings : 8 + picture + 16 * count ≡ settings_at s
  at_settings = omega (arith, z.pictures, z.segments)

  pub settings_count : {r : ℕ} → r ≡ u32_at s (8 + picture + 16 * count) → r ≡ u32_at s (settings_at s)
  settings_count e = e ∙ ap (λ (q : ℕ). u32_at s q) at_settings

  pub settings_number : {r : ℕ} (k : ℕ) → r ≡ number_at s (8 + picture + 16 * count + k) 8 → r ≡ number_at s (settings_at s + k) 8
  settings_number k e = e ∙ ap (λ (q : ℕ). number_at s (q + k) 8) at_settings

  pub settings_units : {u : ℕ} → u ≡ units_length s count (8 + picture) → u ≡ units_length s (file_segments s) (segments_at s)
  settings_units f = f ∙ ap₂ (λ (k q : ℕ). units_length s k (8 + q)) z.segments z.pictures

  pub settings_layout : {g x y : ℕ} → g ≡ gop_at s → x ≡ fps_at s → y ≡ den_at s → lay picture count g x y ≡ layout_of s
  settings_layout {g} {x} {y} a b c =
      ap₂ (λ (p k : ℕ). lay p k g x y) z.pictures z.segments
      ∙ ap₂ (λ (p q : ℕ). lay (picture_count s) (file_segments s) p q y) a b
      ∙ ap (λ (q : ℕ). lay (picture_count s) (file_segments s) (gop_at s) (fps_at s) q) c

-- the second count, behind the picture bytes that the first one counts
pub counts_is : (s : List ℕ) {p n : ℕ} → p ≡ picture_count s → n ≡ u32_at s (4 + p) → n ≡ file_segments s
counts_is s e f = f ∙ ap (λ (k : ℕ). u32_at s (4 + k)) e

-- ---- what a layout tells

pub record FileIs (s : List ℕ) (l : Layout) : Type 0 where
  pub is : is_file s ≡ true
  pub layout : l ≡ layout_of s
  pub small : length s ≤ 65536
  pub sized : length s ≡ settings_at s + 28

pub some_whole : (s : List ℕ) (l : Layout) → Some l ≡ layout_in s → FileIs s l
some_whole s l e = go (is_file s) refl e
  where
    go : (b : Bool) → is_file s ≡ b → Some l ≡ pick b (Some (layout_of s)) None → FileIs s l
    go true w e = let t = tests s w in record { is = w; layout = cc; small = t.small; sized = t.sized }
    go false w e = cc

pub none_whole : (s : List ℕ) → None ≡ layout_in s → is_file s ≡ false
none_whole s e = go (is_file s) refl e
  where
    go : (b : Bool) → is_file s ≡ b → None ≡ pick b (Some (layout_of s)) None → is_file s ≡ false
    go true w e = cc
    go false w e = w

-- ---- the two outcomes of a whole file, and the one of any other

module _ (d s : List ℕ) where
  pub read_bad : None ≡ layout_in s → (bad ≡ read_into d s) × (d ≡ file_numbers_after d s)
  unfolding read_into file_numbers_after
  read_bad e = rw (none_whole s e) (refl, refl)

  module _ {l : Layout} (w : FileIs s l) where
    count_is : l.segments ≡ file_segments s
    count_is = ap (λ (x : Layout). x.segments) w.layout

    all_length : length (file_numbers s) ≡ width * l.segments
    all_length = numbers_length s (file_segments s) (segments_at s) 0 ∙ ap (λ (k : ℕ). width * k) (sym count_is)

    pub whole_records : Records s (l.end + 4) l.segments
    whole_records =
        let e : l.end ≡ 4 + picture_count s = ap (λ (x : Layout). x.end) w.layout in
        record { small = w.small; there = omega (arith, w.sized, e, count_is) }

    pub read_full : length d / width < l.segments → (full ≡ read_into d s) × (d ≡ file_numbers_after d s)
    unfolding read_into file_numbers_after has_room
    read_full h =
        let k : length d < 0 + length (file_numbers s) = omega (arith, all_length) in
        rw w.is (rw (lt-leb (0 + length (file_numbers s)) (length d) k) refl, sym (lent-full d 0 (file_numbers s) k))

    pub read_whole : {d' : List ℕ} → l.segments ≤ length d / width → d' ≡ pasted d 0 (file_numbers_from s l.segments (l.end + 4) 0) → (read_layout l ≡ read_into d s) × (d' ≡ file_numbers_after d s)
    unfolding read_into file_numbers_after has_room
    read_whole {d'} h e =
        let k : 0 + length (file_numbers s) ≤ length d = omega (arith, all_length) in
        let q : l.end + 4 ≡ segments_at s = omega (arith, ap (λ (x : Layout). x.end) w.layout) in
        rw w.is (
          rw (le-leb (0 + length (file_numbers s)) (length d) k) (ap read_layout w.layout),
          e ∙ ap₂ (λ (n p : ℕ). pasted d 0 (file_numbers_from s n p 0)) count_is q ∙ sym (lent-room d 0 (file_numbers s) k),
        )

-- what an accepted reading tells
pub record ReadIs (d s : List ℕ) (l : Layout) : Type 0 where
  pub whole : FileIs s l
  pub room : length (file_numbers s) ≤ length d
  pub count : length (file_numbers s) ≡ width * l.segments
  pub after : file_numbers_after d s ≡ pasted d 0 (file_numbers s)

pub read_is : (d s : List ℕ) (l : Layout) → read_layout l ≡ read_into d s → ReadIs d s l
unfolding read_into file_numbers_after has_room
read_is d s l e = go (is_file s) refl (leb (0 + length (file_numbers s)) (length d)) refl e
  where
    go : (b : Bool) → is_file s ≡ b → (t : Bool) → leb (0 + length (file_numbers s)) (length d) ≡ t
        → read_layout l ≡ pick b (pick t (read_layout (layout_of s)) full) bad → ReadIs d s l
    go true w true h e =
        let t = tests s w in
        let x : FileIs s l = record { is = w; layout = cc; small = t.small; sized = t.sized } in
        let k : 0 + length (file_numbers s) ≤ length d = leb-true (0 + length (file_numbers s)) (length d) h in
        record { whole = x; room = omega arith; count = all_length d s x; after = rw w (lent-room d 0 (file_numbers s) k) }
    go true w false h e = cc
    go false w t h e = cc

pub layout_fits : (s numbers : List ℕ) (l : Layout) (numbers' : List ℕ) → read_layout l ≡ read_into numbers s → numbers' ≡ file_numbers_after numbers s → LayoutFits l s numbers'
layout_fits s numbers l numbers' e w =
    let a = read_is numbers s l e in
    let x : l.start ≡ 4 = ap (λ (k : Layout). k.start) a.whole.layout in
    let y : l.end ≡ 4 + picture_count s = ap (λ (k : Layout). k.end) a.whole.layout in
    let n = ap length (w ∙ a.after) ∙ pasted_length numbers 0 (file_numbers s) (omega (arith, a.room)) in
    record { start_first = omega (arith, x, y); picture = omega (arith, y, a.whole.sized); numbers-there = omega (arith, n, a.room, a.count) }

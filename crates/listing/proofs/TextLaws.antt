-- Laws of the text: the lengths of lines, and one line behind the other.
use Prim.Native.Nat.{ℕ, suc, ◌+◌, ◌-◌, ◌/◌, ◌≤◌, ◌<◌}
use native.Mathlib.Omega.{arith}
use native.Mathlib.Numerals.{add-one}
use mathlib.Core.Path.{◌≡◌, sym, ap, ap₂, ◌∙◌}
use mathlib.Core.List.{List, [], ◌∷◌, ◌++◌}
use mathlib.Core.Bool.{true, false}
use lib.ListN.{length, get_or, drop, length-append, drop_of_length-le}
use lib.Seq.{drop-cons}
use lib.Dec.{leb}
use borrow.Author.Tests.{le-leb, lt-leb}
use Rattle.bitio.specs.Lent.{pasted, Wrote}
use Rattle.bitio.proofs.LentLaws.{pasted-nil, pasted-more, wrote-length, wrote-more}
use Rattle.assemble.specs.Listed.{unit_in}
use Rattle.assemble.specs.declared.unit.UnitList.{UnitList}
use Rattle.listing.specs.Decimal.{decimal, field, counted}
use Rattle.listing.specs.Text.{letter, slot_field, line, lines, units_word, cues_word, refused_word, segment_word, refused_text, refused_in_text, listing, line_in, lines_in, listing_in}

-- ---- lengths

pub length_field : (n last : ℕ) → length (field n last) ≡ length (decimal n) + 1
length_field n last = length-append (decimal n) (last ∷ [])

pub length_counted : (word : List ℕ) (n last : ℕ) → length (counted word n last) ≡ length word + (length (decimal n) + 1)
length_counted word n last = length-append word (field n last) ∙ ap (λ (k : ℕ). length word + k) (length_field n last)

module _ (u : UnitList) (p n : ℕ) where
  abbrev unit_length : ℕ
  unit_length = length (unit_in u n)

  abbrev unit_slot : List ℕ
  unit_slot = slot_field u.shows.now n

  -- the five parts of a line
  pub length_line : length (line_in u p n) ≡ length (field p 32) + (2 + (length (field (n / 4) 32) + (length unit_slot + length (field unit_length 10))))
  unfolding line
  length_line =
      let l = field unit_length 10 in
      let s = unit_slot ++ l in
      let g = field (n / 4) 32 ++ s in
      omega (arith, length-append (field p 32) (letter n ∷ 32 ∷ g), length-append (field (n / 4) 32) s, length-append unit_slot l)

  -- the same, in digits
  pub line_digits : length (line_in u p n) ≡ length (decimal p) + length (decimal (n / 4)) + 4 + length unit_slot + length (decimal unit_length) + 1
  line_digits = omega (arith, length_line, length_field p 32, length_field (n / 4) 32, length_field unit_length 10)

  -- a line put down by its parts
  pub line_wrote : {d d₁ d₂ d₃ d₄ d₅ : List ℕ} {at m₁ m₂ m₃ m₄ r : ℕ} → at + length (line_in u p n) ≤ length d → Wrote d at (field p 32) m₁ d₁
      → Wrote d₁ m₁ (letter n ∷ 32 ∷ []) m₂ d₂ → Wrote d₂ m₂ (field (n / 4) 32) m₃ d₃ → Wrote d₃ m₃ unit_slot m₄ d₄ → Wrote d₄ m₄ (field unit_length 10) r d₅
      → Wrote d at (line_in u p n) r d₅
  unfolding line
  line_wrote {d} {d₁} {d₂} {d₃} {at = at} room w₁ w₂ w₃ w₄ w₅ =
      let a = length_line in
      let k₁ : length d₁ ≡ length d = wrote-length w₁ (omega arith) in
      let k₂ : length d₂ ≡ length d = wrote-length w₂ (omega (arith, w₁.next)) ∙ k₁ in
      let k₃ : length d₃ ≡ length d = wrote-length w₃ (omega (arith, w₁.next, w₂.next)) ∙ k₂ in
      wrote-more w₁ (omega arith) (wrote-more w₂ (omega (arith, w₁.next)) (wrote-more w₃ (omega (arith, w₁.next, w₂.next)) (
      wrote-more w₄ (omega (arith, w₁.next, w₂.next, w₃.next)) w₅)))

-- ---- all lines

module _ (u : UnitList) where
  -- the lines of the units from i on, the first unit being 0
  abbrev pub lines_behind : ℕ → List ℕ
  lines_behind i = lines u.pictures.now u.ends.now u.shows.now (suc i) (drop i u.list.now)

  abbrev pub line_of : ℕ → List ℕ
  line_of i = line_in u (i + 1) (get_or u.list.now i 0)

  behind_more : (i : ℕ) → i < length u.list.now → lines_behind i ≡ line_of i ++ lines_behind (i + 1)
  unfolding lines
  behind_more i h = rw (drop-cons u.list.now i 0 h, add-one i)

  behind_length : (i : ℕ) → i < length u.list.now → length (lines_behind i) ≡ length (line_of i) + length (lines_behind (i + 1))
  behind_length i h = ap length (behind_more i h) ∙ length-append (line_of i) (lines_behind (i + 1))

  behind_none : (i : ℕ) → length u.list.now ≤ i → lines_behind i ≡ []
  unfolding lines
  behind_none i h = rw (drop_of_length-le u.list.now h)

  -- i lines fit, and so much room is left
  pub record Fitting (room i left : ℕ) : Type 0 where
    pub within : i ≤ length u.list.now
    pub over : left + length (lines_behind 0) ≡ room + length (lines_behind i)

  -- i lines are written: what stands there, with what is left, is the whole
  pub record Lining (d₀ : List ℕ) (at : ℕ) (d : List ℕ) (i to : ℕ) : Type 0 where
    pub within : i ≤ length u.list.now
    pub kept : length d ≡ length d₀
    pub place : to + length (lines_behind i) ≡ at + length (lines_behind 0)
    pub same : pasted d to (lines_behind i) ≡ pasted d₀ at (lines_behind 0)

module _ {u : UnitList} {room i left : ℕ} (f : Fitting u room i left) where
  abbrev whole_text : ℕ
  whole_text = length (lines_behind u 0)

  pub fit_end : length u.list.now ≤ i → true ≡ leb whole_text room
  fit_end h =
      let z = ap length (behind_none u i h) in
      sym (le-leb whole_text room (omega (arith, f.over, z)))

  module _ (n : ℕ) (h : i < length u.list.now) (e : n ≡ length (line_of u i)) where
    pub fit_over : left < n → false ≡ leb whole_text room
    fit_over k = sym (lt-leb whole_text room (omega (arith, f.over, behind_length u i h)))

    pub fit_turn : n ≤ left → Fitting u room (i + 1) (left - n)
    fit_turn k = record { within = omega arith; over = omega (arith, f.over, behind_length u i h) }

module _ {u : UnitList} {d₀ : List ℕ} {at : ℕ} {d : List ℕ} {i to : ℕ} (l : Lining u d₀ at d i to) where
  abbrev all : List ℕ
  all = lines_behind u 0

  abbrev rest : List ℕ
  rest = lines_behind u (i + 1)

  abbrev here : List ℕ
  here = line_of u i

  pub lining_end : length u.list.now ≤ i → Wrote d₀ at all to d
  lining_end h =
      let z = behind_none u i h in
      record { next = omega (arith, l.place, ap length z); out = sym (pasted-nil d to) ∙ ap (pasted d to) (sym z) ∙ l.same }

  module _ (h : i < length u.list.now) (room : at + length all ≤ length d₀) where
    pub lining_room : to + length here ≤ length d
    lining_room = omega (arith, l.place, l.kept, behind_length u i h)

    pub lining_turn : {d' : List ℕ} {t : ℕ} → Wrote d to here t d' → Lining u d₀ at d' (i + 1) t
    lining_turn {d'} {t} w =
        record {
          within = omega arith;
          kept = wrote-length w lining_room ∙ l.kept;
          place = omega (arith, l.place, w.next, behind_length u i h);
          same =
              ap₂ (λ (m : List ℕ) (k : ℕ). pasted m k rest) w.out w.next ∙ pasted-more d to here (omega (arith, lining_room)) rest
              ∙ ap (pasted d to) (sym (behind_more u i h)) ∙ l.same;
        }

-- ---- the listing

module _ (cues : ℕ) (u : UnitList) where
  pub listing_length : length (listing_in cues u) ≡ length (decimal (length u.list.now)) + length (decimal cues) + 13 + length (lines_in u)
  unfolding listing
  listing_length =
      let b = counted cues_word cues 10 in
      let l = lines_in u in
      omega (arith, length-append (counted units_word (length u.list.now) 10) (b ++ l), length-append b l, length_counted units_word (length u.list.now) 10, length_counted cues_word cues 10)

  pub listing_wrote : {d d₁ d₂ d₃ : List ℕ} {m₁ m₂ r : ℕ} → length (listing_in cues u) ≤ length d → Wrote d 0 (counted units_word (length u.list.now) 10) m₁ d₁
      → Wrote d₁ m₁ (counted cues_word cues 10) m₂ d₂ → Wrote d₂ m₂ (lines_in u) r d₃ → Wrote d 0 (listing_in cues u) r d₃
  unfolding listing
  listing_wrote {d} {d₁} room w₁ w₂ w₃ =
      let a = listing_length in
      let u₁ = length_counted units_word (length u.list.now) 10 in
      let k₁ : length d₁ ≡ length d = wrote-length w₁ (omega arith) in
      wrote-more w₁ (omega arith) (wrote-more w₂ (omega (arith, w₁.next)) w₃)

-- ---- a refusal

pub refused_length : (k : ℕ) → length (refused_text k) ≡ length (decimal k) + 9
refused_length k = omega (arith, length_counted refused_word k 10)

pub refused_in_length : (k i : ℕ) → length (refused_in_text k i) ≡ length (decimal k) + length (decimal i) + 18
refused_in_length k i =
    omega (arith, length-append (counted refused_word k 32) (counted segment_word i 10), length_counted refused_word k 32, length_counted segment_word i 10)

pub refused_in_wrote : (k i : ℕ) {d d₁ d₂ : List ℕ} {m r : ℕ} → length (refused_in_text k i) ≤ length d → Wrote d 0 (counted refused_word k 32) m d₁
    → Wrote d₁ m (counted segment_word i 10) r d₂ → Wrote d 0 (refused_in_text k i) r d₂
refused_in_wrote k i room w₁ w₂ = wrote-more w₁ (omega (arith, refused_in_length k i, length_counted refused_word k 32)) w₂

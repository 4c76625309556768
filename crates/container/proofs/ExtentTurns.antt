-- The turns of the loops that find where a unit lies, and what they find.
use Prim.Native.Nat.{ℕ, suc, ◌≤◌, ◌<◌}
use native.Mathlib.Omega.{arith}
use mathlib.Core.Path.{◌≡◌, refl, sym, ap, ap₂, ◌∙◌}
use mathlib.Core.List.{List, [], ◌∷◌, ◌++◌, append_assoc, append-nil}
use mathlib.Core.Option.{Option}
use mathlib.Core.Bool.{Bool, true, false, ◌||◌, ◌&&◌}
use lib.ListN.{length}
use lib.Dec.{eqb}
use borrow.Author.Tests.{eq-eqb, ne_eqb}
use Rattle.obu.specs.Obu.{Obu}
use Rattle.obu.specs.Unit.{is_delimiter, is_frame, is_type, count}
use Rattle.obu.specs.declared.unit.Kind.TheVariants.{TemporalDelimiter, Frame}
use Rattle.obu.proofs.UnitLaws.{count_next}
use Rattle.obu.specs.Place.{Place, no_more as ended, wrong, lies, obu_place}
use Rattle.obu.proofs.PlaceLaws.{IsPlaced, is-placed, is-end}
use Rattle.container.specs.Stream.{opens, lead, either, others, units, behind_obu}
use Rattle.container.specs.code.Ranges.{Range, here, more}
use Rattle.container.specs.code.Extents.{last_lead, led, reopens, Frames, ToFrame, ToNext, FirstUnit}
use Rattle.container.proofs.StreamLaws.{leads, count-append, alone, units-alone}
use Rattle.container.proofs.RangeLaws.{range-le, range-within, range-sound, range_same, range-append, range-one, range-end, placed-step, Took, took}
use Rattle.container.proofs.ExtentLaws.{is_none, first_of, leads-next, led-takes, led-first, led-other, first_more, first-last, first-leads}

-- however many frames are left
pub frames-behind : {s : List ℕ} {at : ℕ} {os : List Obu} → Range s at (length s) os → (n : ℕ) × Frames s at n
frames-behind {os} r = (count is_frame os, record { all = os; range = r; frames = refl })

-- ---- to the frame

-- p is reached, and what leads lies from a to b
pub record Heading (s : List ℕ) (at p a b : ℕ) (is-led : Bool) : Type 0 where
  pub front : List Obu
  pub left : List Obu
  pub range : Range s at p front
  pub behind : Range s p (length s) left
  pub waits : count is_frame front ≡ 0
  pub some : 1 ≤ count is_frame left
  pub leading : Range s a b (led front)
  pub after : at ≤ a
  pub within : b ≤ p
  pub leds : is-led ≡ leads front

pub heading-start : {s : List ℕ} {at n : ℕ} → Frames s at n → 1 ≤ n → Heading s at at at at false
unfolding last_lead count
heading-start f h =
    let l = range-le f.range in
    record {
      front = [];
      left = f.all;
      range = here l;
      behind = f.range;
      waits = refl;
      some = omega (arith, f.frames);
      leading = here l;
      after = omega arith;
      within = omega arith;
      leds = refl;
    }

-- nothing lies in front of the first OBU alone
none-first : {s : List ℕ} {at p : ℕ} {os : List Obu} → Range s at p os → eqb p at ≡ is_none os
none-first (here {a} l) = eq-eqb a a refl
none-first {at} {p} (more q r) = ne_eqb p at (λ z. omega (arith, q.after, range-le r))

module _ {s : List ℕ} {at p a b : ℕ} {l : Bool} (h : Heading s at p a b l) where
  -- the frame is found before the end
  pub heading-end : length s ≤ p → ⊥
  unfolding count
  heading-end k = let n = ap (count is_frame) (range-end h.behind k) in omega (arith, h.some)

  module _ {t : ℕ} {e : Option ℕ} {x q : ℕ} (g : IsPlaced s p t e x q) where
    abbrev o : Obu
    o = g.obu

    k : Took s (length s) h.left o q
    k = took h.behind g.placed.here (placed-step g.placed)

    pub heading-frame : is_type Frame t ≡ true → ToFrame s at a b q
    heading-frame d =
        record {
          front = h.front;
          frame = o;
          rest = k.rest;
          range = range-append h.range (range-one (placed-step g.placed));
          behind = k.range;
          waits = h.waits;
          framed = ap (is_type Frame) g.type ∙ d;
          leading = h.leading;
          after = h.after;
          within = omega (arith, h.within, g.placed.after, g.placed.ends);
          some = omega (arith, range-le h.range, g.placed.after, g.placed.ends);
        }

    module _ (no-frame : is_type Frame t ≡ false) where
      f : is_frame o ≡ false
      f = ap (is_type Frame) g.type ∙ no-frame

      next : {y z : ℕ} {m : Bool} → Range s y z (led (h.front ++ (o ∷ []))) → at ≤ y → z ≤ q → m ≡ leads (h.front ++ (o ∷ [])) → Heading s at q y z m
      unfolding count
      next r u v e =
          record {
            front = h.front ++ (o ∷ []);
            left = k.rest;
            range = range-append h.range (range-one (placed-step g.placed));
            behind = k.range;
            waits = count_next is_frame h.front o ∙ rw f h.waits;
            some = let n : count is_frame h.left ≡ count is_frame k.rest = ap (count is_frame) k.list ∙ rw f in omega (arith, h.some);
            leading = r;
            after = u;
            within = v;
            leds = e;
          }

      -- a delimiter leads where none has led for good
      pub heading-taken : l ≡ false → is_type TemporalDelimiter t ≡ true → Heading s at q p q (eqb p at)
      heading-taken n d =
          let w : is_delimiter o ≡ true = ap (is_type TemporalDelimiter) g.type ∙ d in
          let m = led-takes h.front o w (sym h.leds ∙ n) in
          next (rw m (range-one (placed-step g.placed))) (range-le h.range) (omega arith)
          (sym (leads-next h.front o ∙ rw (w, ← h.leds, n) (go (is_none h.front)) ∙ sym (none-first h.range)))
        where
          go : (b : Bool) → (b && true) ≡ b
          go true = refl
          go false = refl

      same : led (h.front ++ (o ∷ [])) ≡ led h.front → l ≡ leads (h.front ++ (o ∷ [])) → Heading s at q a b l
      same m e = next (rw m h.leading) h.after (omega (arith, h.within, g.placed.after, g.placed.ends)) e

      pub heading-led : l ≡ true → Heading s at q a b l
      heading-led n = same (led-first h.front o (sym h.leds ∙ n)) (sym (leads-next h.front o ∙ rw (← h.leds, n)))

      pub heading-other : is_type TemporalDelimiter t ≡ false → Heading s at q a b l
      heading-other d =
          let w : is_delimiter o ≡ false = ap (is_type TemporalDelimiter) g.type ∙ d in
          same (led-other h.front o w) (sym (leads-next h.front o ∙ rw (w, ← h.leds) (go l (is_none h.front))))
        where
          go : (a b : Bool) → (a || (b && false)) ≡ a
          go true b = refl
          go false true = refl
          go false false = refl

-- ---- to the next unit

pub record Nexting (s : List ℕ) (at p : ℕ) : Type 0 where
  pub front : List Obu
  pub left : List Obu
  pub range : Range s at p front
  pub behind : Range s p (length s) left
  pub frames : count is_frame front ≡ 0
  pub delimiters : count is_delimiter front ≡ 0

pub nexting-start : {s : List ℕ} {at n : ℕ} → Frames s at n → Nexting s at at
unfolding count
nexting-start f = record { front = []; left = f.all; range = here (range-le f.range); behind = f.range; frames = refl; delimiters = refl }

module _ {s : List ℕ} {at p : ℕ} (h : Nexting s at p) where
  there : reopens h.left ≡ true → ToNext s at p
  there e =
      record { front = h.front; rest = h.left; range = h.range; behind = h.behind; frames = h.frames; delimiters = h.delimiters; opening = e }

  pub nexting-end : length s ≤ p → ToNext s at p
  nexting-end k = there (rw (range-end h.behind k))

  module _ {t : ℕ} {e : Option ℕ} {x q : ℕ} (g : IsPlaced s p t e x q) where
    tk : Took s (length s) h.left g.obu q
    tk = took h.behind g.placed.here (placed-step g.placed)

    opened : opens true g.obu ≡ true → ToNext s at p
    opened e = there (ap (λ l. reopens l) tk.list ∙ e)

    pub nexting-delimiter : is_type TemporalDelimiter t ≡ true → ToNext s at p
    nexting-delimiter d = opened (rw (g.type, d))

    pub nexting-frame : is_type TemporalDelimiter t ≡ false → is_type Frame t ≡ true → ToNext s at p
    nexting-frame d f = opened (rw (g.type, d, f))

    pub nexting-next : is_type TemporalDelimiter t ≡ false → is_type Frame t ≡ false → Nexting s at q
    nexting-next d f =
        record {
          front = h.front ++ (g.obu ∷ []);
          left = tk.rest;
          range = range-append h.range (range-one (placed-step g.placed));
          behind = tk.range;
          frames = count_next is_frame h.front g.obu ∙ rw (g.type, f) h.frames;
          delimiters = count_next is_delimiter h.front g.obu ∙ rw (g.type, d) h.delimiters;
        }

-- ---- the first OBU

-- the first OBU from `at` on, if there is one, ends at b
pub record FirstObu (s : List ℕ) (at b : ℕ) : Type 0 where
  pub all : List Obu
  pub range : Range s at (length s) all
  pub first : Range s at b (first_of all)

obu-none : {s : List ℕ} {at n : ℕ} → Frames s at n → length s ≤ at → FirstObu s at at
obu-none f k = record { all = f.all; range = f.range; first = rw (range-end f.range k) (here (range-le f.range)) }

obu-first : {s : List ℕ} {at n t : ℕ} {e : Option ℕ} {x q : ℕ} → Frames s at n → IsPlaced s at t e x q → FirstObu s at q
obu-first f g =
    let k = took f.range g.placed.here (placed-step g.placed) in
    record { all = f.all; range = f.range; first = rw k.list (range-one (placed-step g.placed)) }

pub obu-ends : {s : List ℕ} {at n x : ℕ} → Frames s at n → x ≡ behind_obu at (obu_place s at) → FirstObu s at x
obu-ends {s} {at} f e = rw e (go (obu_place s at) refl)
  where
    go : (y : Place) → obu_place s at ≡ y → FirstObu s at (behind_obu at y)
    go ended q = obu-none f (is-end s at q)
    go (wrong k) q = absurd (range-sound _ f.range q)
    go (lies t x a b) q = obu-first f (is-placed s at q)

-- ---- the unit

pub units-empty : units [] ≡ []
unfolding count
units-empty = units-alone [] refl

alone-is : {s : List ℕ} {a b : ℕ} {os : List Obu} → Range s a b os → a < b → alone os ≡ os ∷ []
alone-is (here l) h = absurd (omega arith)
alone-is (more p r) h = refl

either-some : {s : List ℕ} {a b : ℕ} {os : List Obu} (x : List Obu) → Range s a b os → a < b → either os x ≡ os
either-some x (here l) h = absurd (omega arith)
either-some x (more p r) h = refl

module _ {s : List ℕ} {at : ℕ} where
  -- without a frame all is one unit
  pub unit-alone : at < length s → Frames s at 0 → FirstUnit s at 0 at (length s) (length s) (length s)
  unfolding others count
  unit-alone l f =
      let none : Range s (length s) (length s) [] = here {a = length s} (omega arith) in
      record {
        all = f.all;
        range = f.range;
        leading = f.all;
        lead-range = f.range;
        inner = [];
        inner-range = none;
        rest = [];
        behind = none;
        first = units-alone f.all f.frames ∙ alone-is f.range l ∙ ap₂ ◌∷◌ (sym (append-nil f.all)) (sym units-empty);
        left = refl;
        lead_after = omega arith;
        lead-within = omega arith;
        after = omega arith;
        some = l;
      }

  module _ {left a b m e : ℕ} (fs : Frames s at left) (tf : ToFrame s at a b m) (tn : ToNext s m e) where
    abbrev all : List Obu
    all = tf.front ++ (tf.frame ∷ (tn.front ++ tn.rest))

    abbrev inner : List Obu
    inner = tf.front ++ (tf.frame ∷ tn.front)

    inner-range : Range s at e inner
    inner-range = rw append_assoc at (range-append tf.range tn.range)

    all-range : Range s at (length s) all
    all-range = rw append_assoc at (range-append tf.range (range-append tn.range tn.behind))

    frames : suc (count is_frame tn.rest) ≡ left
    unfolding count
    frames =
        let x : count is_frame all ≡ left = ap (count is_frame) (range_same all-range fs.range) ∙ fs.frames in
        let y = count-append is_frame tf.front (tf.frame ∷ (tn.front ++ tn.rest)) in
        let z = count-append is_frame tn.front tn.rest in
        let w : count is_frame (tf.frame ∷ (tn.front ++ tn.rest)) ≡ suc (count is_frame (tn.front ++ tn.rest)) = rw tf.framed in
        omega (arith, tf.waits, tn.frames)

    -- another frame follows
    pub unit-more : 2 ≤ left → FirstUnit s at left a b at e
    unit-more n =
        record {
          all = all;
          range = all-range;
          leading = led tf.front;
          lead-range = tf.leading;
          inner = inner;
          inner-range = inner-range;
          rest = tn.rest;
          behind = tn.behind;
          first = first_more tf.front tf.frame tn.front tf.waits tf.framed tn.frames tn.delimiters tn.rest tn.opening (omega (arith, frames));
          left = omega (arith, frames);
          lead_after = tf.after;
          lead-within = omega (arith, tf.within, range-le tn.range);
          after = omega arith;
          some = omega (arith, tf.some, range-le tn.range);
        }

    module _ (n : left < 2) where
      ending : Range s (length s) (length s) []
      ending = here {a = length s} (omega arith)

      no_more : count is_frame tn.rest ≡ 0
      no_more = omega (arith, frames)

      -- all that follows goes with the last frame
      last : units all ≡ (either (led tf.front) (lead tn.rest) ++ others all) ∷ units []
      last =
          first-last tf.front tf.frame tn.front tf.waits tf.framed tn.frames tn.delimiters tn.rest tn.opening no_more
          ∙ ap (λ l. (either (led tf.front) (lead tn.rest) ++ others all) ∷ l) (sym units-empty)

      to_end : {y z : ℕ} (ls : List Obu) → Range s y z ls → either (led tf.front) (lead tn.rest) ≡ ls → at ≤ y → z ≤ length s → FirstUnit s at left y z at (length s)
      unfolding count
      to_end ls r q u v =
          record {
            all = all;
            range = all-range;
            leading = ls;
            lead-range = r;
            inner = all;
            inner-range = all-range;
            rest = [];
            behind = ending;
            first = last ∙ ap (λ l. (l ++ others all) ∷ units []) q;
            left = omega (arith, frames, no_more);
            lead_after = u;
            lead-within = v;
            after = omega arith;
            some = omega (arith, tf.some, range-within tf.range);
          }

      pub unit-led : a < b → FirstUnit s at left a b at (length s)
      unit-led l = to_end (led tf.front) tf.leading (either-some (lead tn.rest) tf.leading l) tf.after (range-within tf.leading)

      pub unit-unled : {x : ℕ} → b ≤ a → FirstObu s e x → FirstUnit s at left e x at (length s)
      unit-unled {x} l fo =
          let p : led tf.front ≡ [] = range-end tf.leading l in
          let q : fo.all ≡ tn.rest = range_same fo.range tn.behind in
          to_end (first_of tn.rest) (rw q at fo.first) (ap (λ y. either y (lead tn.rest)) p ∙ first-leads tn.rest tn.opening no_more)
          (omega (arith, tf.some, range-le tn.range)) (range-within fo.first)

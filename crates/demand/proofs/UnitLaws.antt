-- A unit of demand 3's kind, as it goes out: copied, or with its sequence headers replaced.
use Prim.Native.Nat.{ℕ, ◌^◌, ◌<◌}
use native.Mathlib.Omega.{arith}
use mathlib.Core.Path.{◌≡◌, refl, sym, ◌∙◌}
use mathlib.Core.List.{List, [], ◌∷◌, map, flat_map}
use mathlib.Core.Bool.{Bool, true, false, cond as pick, ◌||◌}
use mathlib.Core.Option.{Option, none, some}
use lib.ListN.{length}
use lib.Dec.{eqb}
use borrow.Author.Tests.{eqb-true}
use Rattle.bitio.specs.Parse.{accepted, and_next}
use Rattle.bitio.specs.Leb.{leb_write, leb_bytes, framed}
use Rattle.bitio.specs.Every.{Every}
use Rattle.bitio.specs.Every.Every.{nothing, also}
use Rattle.obu.specs.Obu.{Obu, passes, obu_bytes, unit_bytes}
use Rattle.obu.specs.Unit.{is_frame, is_delimiter, is_type, has, count, first_payload, is_sequence}
use Rattle.obu.specs.declared.unit.Kind.TheVariants.{TemporalDelimiter, Frame as FrameObu}
use Rattle.obu.proofs.ObuLaws.{Allowed, obus-allowed, unit-written}
use Rattle.container.proofs.StreamLaws.{leads}
use Rattle.container.proofs.RoundTrip.{Whole}
use Rattle.frame.specs.Frame.{show_byte}
use Rattle.pictures.specs.Prepare.{first_of, renewed, sent, show_unit}
use Rattle.demand.specs.Premises.{Delimited, SequenceIs, Premise}

-- ---- the first OBU of a kind

pub record FirstFound (pass : Obu → Bool) (os : List Obu) (o : Obu) : Type 0 where
  pub there : has pass os ≡ true
  pub payload : first_payload pass os ≡ o.payload

pub first-is : (n : ℕ) (pass : Obu → Bool) (os : List Obu) (o : Obu) → first_of n pass os ≡ accepted o → FirstFound pass os o
unfolding first_of has first_payload
first-is n pass [] o e = cc
first-is n pass (x ∷ os) o e = go (pass x) refl e (λ w. first-is n pass os o w)
  where
    go : (t : Bool) → pass x ≡ t → pick t (accepted x) (first_of n pass os) ≡ accepted o → (first_of n pass os ≡ accepted o → FirstFound pass os o) → FirstFound pass (x ∷ os) o
    go true w e ih = let z : x ≡ o = cc in record { there = rw w; payload = rw (w, z) }
    go false w e ih = let r = ih e in record { there = rw w r.there; payload = rw w r.payload }

-- the first sequence payload, where all are s
pub first-same : (s : List ℕ) {os : List Obu} → Every (SequenceIs s) os → has is_sequence os ≡ true → first_payload is_sequence os ≡ s
unfolding has first_payload
first-same s nothing h = cc
first-same s (also {a = o} {l = os} e es) h = go (is_sequence o) e h (λ w. first-same s es w)
  where
    go : (t : Bool) → (t ≡ true → o.payload ≡ s) → (t || has is_sequence os) ≡ true → (has is_sequence os ≡ true → first_payload is_sequence os ≡ s)
        → pick t o.payload (first_payload is_sequence os) ≡ s
    go true w h ih = w refl
    go false w h ih = ih h

-- ---- sequence headers replaced

module _ (new : List ℕ) where
  count-renewed : (k : ℕ → Bool) (os : List Obu) → count (λ o. k o.type) (map (renewed new) os) ≡ count (λ o. k o.type) os
  unfolding count
  count-renewed k [] = refl
  count-renewed k (o ∷ os) = rw (count-renewed k os)

  has-renewed : (os : List Obu) → has is_sequence (map (renewed new) os) ≡ has is_sequence os
  unfolding has
  has-renewed [] = refl
  has-renewed (o ∷ os) = rw (has-renewed os)

  -- a sequence header is no frame
  pick-frame : (o : Obu) (rest : List ℕ) → pick (is_frame o) (pick (is_sequence o) new o.payload) rest ≡ pick (is_frame o) o.payload rest
  unfolding is_type
  pick-frame o rest = go (eqb o.type 1) refl
    where
      go : (t : Bool) → eqb o.type 1 ≡ t → pick (eqb o.type 3 || eqb o.type 6) (pick t new o.payload) rest ≡ pick (eqb o.type 3 || eqb o.type 6) o.payload rest
      go true e = let v = eqb-true o.type 1 e in rw v
      go false e = refl

  frame-renewed : (os : List Obu) → first_payload is_frame (map (renewed new) os) ≡ first_payload is_frame os
  unfolding first_payload
  frame-renewed [] = refl
  frame-renewed (o ∷ os) = rw (frame-renewed os) (pick-frame o (first_payload is_frame os))

  same-renewed : (os : List Obu) → Every (SequenceIs new) (map (renewed new) os)
  same-renewed [] = nothing
  same-renewed (o ∷ os) = also {a = renewed new o} (λ e. rw e) (same-renewed os)

  delimited-renewed : (os : List Obu) → Delimited os → Delimited (map (renewed new) os)
  delimited-renewed [] d = d
  delimited-renewed (o ∷ os) d = (d.0, count-renewed (is_type TemporalDelimiter) os ∙ d.1)

  allowed-renewed : length new < 2 ^ 56 → {os : List Obu} → Every Allowed os → Every Allowed (map (renewed new) os)
  allowed-renewed l nothing = nothing
  allowed-renewed l (also {a = o} h hs) = also (record { passing = h.passing; short = go (is_sequence o) h.short }) (allowed-renewed l hs)
    where
      go : (t : Bool) → length o.payload < 2 ^ 56 → length (pick t new o.payload) < 2 ^ 56
      go true s = l
      go false s = s

  -- OBUs without a sequence header
  same_none : (os : List Obu) → has is_sequence os ≡ false → Every (SequenceIs new) os
  unfolding has
  same_none [] e = nothing
  same_none (o ∷ os) e = go (is_sequence o) refl e (λ w. same_none os w)
    where
      go : (t : Bool) → is_sequence o ≡ t → (t || has is_sequence os) ≡ false → (has is_sequence os ≡ false → Every (SequenceIs new) os) → Every (SequenceIs new) (o ∷ os)
      go true w e ih = cc
      go false w e ih = also {a = o} (λ (k : is_sequence o ≡ true). let v : true ≡ false = sym k ∙ w in cc) (ih e)

-- ---- as it goes out

-- the sequence payload that goes out for s
abbrev pub outgoing : Option (List ℕ) → List ℕ → List ℕ
outgoing none s = s
outgoing (some new) s = new

-- a new payload can be written
abbrev pub ShortPayload : Option (List ℕ) → Type 0
ShortPayload none = Unit
ShortPayload (some new) = length new < 2 ^ 56

pub record Out (s : List ℕ) (os : List Obu) (v : List ℕ) : Type 0 where
  pub unit : Premise s v
  pub frame : first_payload is_frame unit.held ≡ first_payload is_frame os
  pub header : has is_sequence unit.held ≡ has is_sequence os

module _ (s u v : List ℕ) (w : Premise s u) where
  -- nothing was changed
  copied : (t : List ℕ) → Every (SequenceIs t) w.held → u ≡ v → Out t w.held v
  copied t k e =
      rw (← e)
      (record { unit = record { held = w.held; written = w.written; delimited = w.delimited; single = w.single; same = k }; frame = refl; header = refl })

  rewritten : (new : List ℕ) → length new < 2 ^ 56 → length u < 2 ^ 56 → unit_bytes (map (renewed new) w.held) ≡ v → Out new w.held v
  rewritten new n l e =
      let os = w.held in
      rw (← e)
      (record {
        unit = record {
          held = map (renewed new) os;
          written = unit-written (allowed-renewed new n (obus-allowed u os l w.written.reads));
          delimited = delimited-renewed new os w.delimited;
          single = count-renewed new (is_type FrameObu) os ∙ w.single;
          same = same-renewed new os;
        };
        frame = frame-renewed new os;
        header = has-renewed new os;
      })

  pub goes-out : (new : Option (List ℕ)) → ShortPayload new → length u < 2 ^ 56 → sent new u ≡ accepted v → Out (outgoing new s) w.held v
  unfolding sent and_next
  goes-out none n l e = copied s w.same (cc)
  goes-out (some new) n l e = go (has is_sequence w.held) refl (rw w.written.reads at e)
    where
      go : (t : Bool) → has is_sequence w.held ≡ t → accepted (pick t (unit_bytes (map (renewed new) w.held)) u) ≡ accepted v → Out new w.held v
      go true h k = rewritten new n l (cc)
      go false h k = copied new (same_none new w.held h) (cc)

-- ---- show units

abbrev show_obus : ℕ → List Obu
show_obus slot = record { type = 2; ext = none; payload = [] } ∷ record { type = 3; ext = none; payload = show_byte slot ∷ [] } ∷ []

show-allowed : (slot : ℕ) → Every Allowed (show_obus slot)
unfolding passes
show-allowed slot =
    also {a = record { type = 2; ext = none; payload = [] }} (record { passing = refl; short = omega arith })
    (also {a = record { type = 3; ext = none; payload = show_byte slot ∷ [] }} (record { passing = refl; short = omega arith }) nothing)

show-bytes : (slot : ℕ) → unit_bytes (show_obus slot) ≡ show_unit slot
unfolding unit_bytes flat_map obu_bytes framed leb_bytes leb_write
show-bytes slot = refl

-- a show unit is in written form, led by its only delimiter, with one frame and no sequence header
pub show-unit : (s : List ℕ) (slot : ℕ) → Premise s (show_unit slot)
unfolding count is_type
show-unit s slot =
    record {
      held = show_obus slot;
      written = rw (show-bytes slot) at (unit-written (show-allowed slot));
      delimited = (refl, refl);
      single = refl;
      same = also {a = record { type = 2; ext = none; payload = [] }} (λ e. cc)
          (also {a = record { type = 3; ext = none; payload = show_byte slot ∷ [] }} (λ e. cc) nothing);
    }

-- the payload of its frame
pub show-payload : (s : List ℕ) (slot : ℕ) → first_payload is_frame (show-unit s slot).held ≡ show_byte slot ∷ []
unfolding show-unit first_payload is_type
show-payload s slot = refl

-- ---- for the containers

led : (os : List Obu) → Delimited os → leads os ≡ true
led [] d = absurd d
led (o ∷ os) d = d.0

alone : (os : List Obu) → Delimited os → count is_delimiter os ≡ 1
unfolding count
alone [] d = absurd d
alone (o ∷ os) d = rw (d.0, d.1)

pub whole : (s u : List ℕ) → Premise s u → Whole u
whole s u w =
    record {
      held = w.held;
      written = w.written;
      led = led w.held w.delimited;
      alone = alone w.held w.delimited;
      single = w.single;
    }

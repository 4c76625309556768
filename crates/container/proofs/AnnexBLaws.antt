-- Annex B gives back the units-back that were written to it.
use Prim.Native.Nat.{ℕ, ◌+◌, ◌*◌, ◌^◌, ◌<◌}
use native.Mathlib.Omega.{arith}
use mathlib.Core.Path.{◌≡◌, refl, ◌∙◌}
use mathlib.Core.List.{List, [], ◌∷◌, ◌++◌, map, flat_map, append-nil}
use mathlib.Core.Option.{Option, none, some}
use mathlib.Core.Bool.{true}
use lib.ListN.{length, length-append}
use Rattle.bitio.specs.Parse.{Answer, refused, accepted, answer, Head, stop, item, before, within, many}
use Rattle.bitio.specs.Every.{Every}
use Rattle.bitio.proofs.ParseLaws.{Leaves, Shrinks, many-item, many-nil, many-all, Back}
use Rattle.bitio.specs.Every.Every.{nothing, also}
use Rattle.bitio.specs.Leb.{sized, framed}
use Rattle.bitio.proofs.LebLaws.{sized-back, sized-shrinks, framed-length}
use Rattle.obu.specs.Obu.{Obu, passes, header, unit_bytes}
use Rattle.obu.proofs.ObuLaws.{Allowed, passes-small, fields, obus-unit}
use Rattle.container.specs.Stream.{flat}
use Rattle.container.specs.AnnexB.{inner_obu_of, inner_obu, length_obu_of, length_obu, frame_unit_of, frame_unit, temporal_unit_of, temporal_unit, annexb_units_of, annexb_units, inner_bytes, annexb_unit, annexb_bytes}

-- ---- a sized part that is read further

within-shrinks : {B : Type 0} (a b : ℕ) (f : List ℕ → Answer B) → Shrinks (λ s. within (sized a b s) f)
within-shrinks {B} a b f s = go (sized a b s) (sized-shrinks a b s)
  where
    tail : (r : List ℕ) (x : Answer B) → length r < length s → Leaves (length s) (before r x)
    tail r (refused k) l = tt
    tail r (accepted y) l = l

    go : (x : Head (List ℕ)) → Leaves (length s) x → Leaves (length s) (within x f)
    go (stop k) l = tt
    go (item p r) l = tail r (f p) l

within-back : {B : Type 0} (a b : ℕ) (f : List ℕ → Answer B) (p r : List ℕ) (x : B) → length p < 2 ^ 56 → f p ≡ accepted x → within (sized a b (framed p ++ r)) f ≡ item x r
within-back a b f p r x l e = rw (sized-back a b p r l, e)

-- ---- an OBU, a unit, all units-back

inner : (t : ℕ) (e : Option ℕ) (p : List ℕ) → passes t ≡ true
    → inner_obu (header 0 t e ++ p) ≡ accepted (record { type = t; ext = e; payload = p })
unfolding inner_obu_of
inner t none p a =
    let h = 8 * t + 0 + 0 in
    let f = fields t 0 0 h (passes-small t a) (omega arith) (omega arith) (omega arith) in
    rw (f.forbidden, f.ext, f.size, f.type, a)
inner t (some x) p a =
    let h = 8 * t + 4 + 0 in
    let f = fields t 1 0 h (passes-small t a) (omega arith) (omega arith) (omega arith) in
    rw (f.forbidden, f.ext, f.size, f.type, a)

pub inner_back : (o : Obu) → Allowed o → inner_obu (header 0 o.type o.ext ++ o.payload) ≡ accepted o
inner_back o a = inner o.type o.ext o.payload a.passing

every : (os : List Obu) → Every Allowed os → length (flat_map inner_bytes os) < 2 ^ 56 → Every (Back length_obu inner_bytes) os
unfolding flat_map length_obu_of
every [] nothing l = nothing
every (o ∷ os) (also a as') l =
    let p = header 0 o.type o.ext ++ o.payload in
    let n = length-append (framed p) (flat_map inner_bytes os) in
    also (λ r. within-back 10 11 inner_obu p r o (omega (arith, framed-length p)) (inner_back o a)) (every os as' (omega arith))

pub length-shrinks : Shrinks length_obu
unfolding length_obu_of
length-shrinks = within-shrinks 10 11 inner_obu

pub frame-shrinks : Shrinks frame_unit
unfolding frame_unit_of
frame-shrinks = within-shrinks 8 9 (many length_obu)

pub temporal-shrinks : Shrinks temporal_unit
unfolding temporal_unit_of
temporal-shrinks = within-shrinks 6 7 (λ p. answer flat (many frame_unit p))

module _ (os : List Obu) (a : Every Allowed os) (l : length (annexb_unit os) < 2 ^ 56) where
  abbrev obus_b : List ℕ
  obus_b = flat_map inner_bytes os

  short : (length obus_b < 2 ^ 56) × (length (framed obus_b) < 2 ^ 56)
  unfolding annexb_unit
  short = (omega (arith, framed-length obus_b, framed-length (framed obus_b)), omega (arith, framed-length (framed obus_b)))

  frame_back : frame_unit (framed obus_b ++ []) ≡ item os []
  unfolding frame_unit_of
  frame_back = within-back 8 9 (many length_obu) obus_b [] os short.0 (many-all length_obu inner_bytes length-shrinks (every os a short.0))

  frames-back : many frame_unit (framed obus_b) ≡ accepted (os ∷ [])
  frames-back =
      many-item frame_unit frame-shrinks (framed obus_b) os [] (rw append-nil at frame_back) ∙ rw (many-nil frame_unit)

  -- a unit is read back, whatever stands behind it
  pub temporal-back : (r : List ℕ) → temporal_unit (annexb_unit os ++ r) ≡ item os r
  unfolding temporal_unit_of annexb_unit flat
  temporal-back r = within-back 6 7 (λ p. answer flat (many frame_unit p)) (framed obus_b) r os short.1 (rw (frames-back, append-nil))

units-back : (us : List (List Obu)) → Every (Every Allowed) us → length (flat_map annexb_unit us) < 2 ^ 56 → Every (Back temporal_unit annexb_unit) us
unfolding flat_map
units-back [] nothing l = nothing
units-back (u ∷ us) (also a as') l =
    let n = length-append (annexb_unit u) (flat_map annexb_unit us) in
    also (temporal-back u a (omega arith)) (units-back us as' (omega arith))

-- ---- the round trip

pub annexb-write : {us : List (List Obu)} → Every (Every Allowed) us → annexb_bytes (map unit_bytes us) ≡ accepted (flat_map annexb_unit us)
unfolding annexb_bytes flat_map
annexb-write nothing = refl
annexb-write (also a as') = rw (obus-unit a, annexb-write as')

some_bytes : (u : List Obu) (us : List (List Obu)) → 0 < length (flat_map annexb_unit (u ∷ us))
unfolding flat_map annexb_unit
some_bytes u us = omega (arith, framed-length (framed (flat_map inner_bytes u)), length-append (annexb_unit u) (flat_map annexb_unit us))

pub annexb-some : (s : List ℕ) → 0 < length s → annexb_units s ≡ answer (map unit_bytes) (many temporal_unit s)
unfolding annexb_units_of
annexb-some [] l = absurd (omega arith)
annexb-some (b ∷ s) l = refl

pub annexb-back : {us : List (List Obu)} → Every (Every Allowed) us → 0 < length us → length (flat_map annexb_unit us) < 2 ^ 56
    → annexb_units (flat_map annexb_unit us) ≡ accepted (map unit_bytes us)
annexb-back nothing l m = absurd (omega arith)
annexb-back (also {a = u} {l = us} a as') l m =
    annexb-some _ (some_bytes u us) ∙ rw (many-all temporal_unit annexb_unit temporal-shrinks (units-back (u ∷ us) (also a as') m))

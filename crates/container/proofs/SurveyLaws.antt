-- The turns of the loop that reads a stream through once.
use Prim.Native.Nat.{ℕ, suc, ◌+◌, ◌-◌, ◌*◌, ◌^◌, ◌≤◌, ◌<◌}
use native.Mathlib.Omega.{arith}
use mathlib.Core.Path.{◌≡◌, refl, sym, ap, ◌∙◌}
use mathlib.Core.List.{List, [], ◌∷◌, ◌++◌, flat_map}
use mathlib.Core.Option.{Option}
use mathlib.Core.Bool.{Bool, true, false, cond as pick}
use lib.ListN.{length, length-append}
use Rattle.bitio.specs.Limits.{limit}
use Rattle.bitio.specs.Parse.{accepted, answer}
use Rattle.obu.specs.Obu.{Obu, obus, unit_bytes}
use Rattle.obu.specs.Place.{obu_place, no_more}
use Rattle.obu.specs.Unit.{is_frame, is_type, count}
use Rattle.obu.specs.Write.{obu_length}
use Rattle.obu.specs.declared.unit.Kind.TheVariants.{Frame}
use Rattle.obu.proofs.PlaceLaws.{IsPlaced, Walked, walk_start, walk-next, walk_end}
use Rattle.obu.proofs.UnitLaws.{count_next}
use Rattle.container.specs.code.Ranges.{is_kept, kept_one}
use Rattle.container.specs.code.Survey.{tally_of}
use Rattle.container.proofs.StreamLaws.{bytes-append}
use Rattle.container.proofs.RangeLaws.{placed-step, kept-nil, kept_cons, kept-length, step-most}

-- n frames and b bytes up to `at`
pub record Surveying (s : List ℕ) (at n b : ℕ) : Type 0 where
  pub short : length s ≤ limit
  pub front : List Obu
  pub walked : Walked s at front
  pub few : n ≤ at
  pub small : b ≤ 12 * at
  pub frames : n ≡ count is_frame front
  pub bytes : b ≡ length (unit_bytes front)

pub survey-start : {s : List ℕ} → length s ≤ limit → Surveying s 0 0 0
unfolding count unit_bytes flat_map
survey-start {s} l =
    record { short = l; front = []; walked = walk_start s; few = omega arith; small = omega arith; frames = refl; bytes = refl }

one-length : (front : List Obu) (o : Obu) → length (unit_bytes (front ++ (o ∷ []))) ≡ length (unit_bytes front) + length (kept_one true o)
one-length front o =
    let a = ap length (bytes-append front (o ∷ [])) ∙ length-append (unit_bytes front) (unit_bytes (o ∷ [])) in
    let b = ap length (kept_cons true o []) ∙ length-append (kept_one true o) (unit_bytes []) in
    let c = ap length (kept-nil true) in
    omega arith

module _ {s : List ℕ} {at n b : ℕ} (v : Surveying s at n b) where
  pub survey-end : obu_place s at ≡ no_more → accepted (record { frames = n; bytes = b }) ≡ answer tally_of (obus s)
  survey-end q = rw (walk_end v.walked q, v.frames, v.bytes)

  module _ {t : ℕ} {e : Option ℕ} {p q : ℕ} (g : IsPlaced s at t e p q) where
    pub survey-short : (p ≤ q) × (q ≤ limit)
    survey-short = omega (arith, g.placed.ends, g.placed.within, v.short)

    module _ {k : ℕ} (kept-is : k ≡ pick (is_kept true t) (obu_length e (q - p)) 0) where
      size : k ≡ length (kept_one true g.obu)
      size = kept-is ∙ rw (← g.type, ← g.ext, g.placed.size) (sym (kept-length true g.obu))

      pub survey-fits : b + k < 2 ^ 63
      survey-fits =
          let f = g.placed in
          omega (arith, size, step-most true (placed-step f), v.small, v.short, f.after, f.ends, f.within)

      pub survey-next : {m : ℕ} → m ≡ pick (is_type Frame t) (suc n) n → Surveying s q m (b + k)
      survey-next {m} c =
          let f = g.placed in
          let x = count_next is_frame v.front g.obu in
          let y : m ≡ count is_frame (v.front ++ (g.obu ∷ [])) = c ∙ rw (← g.type, v.frames) (sym x) in
          record {
            short = v.short;
            front = v.front ++ (g.obu ∷ []);
            walked = walk-next v.walked f;
            few = omega (arith, v.few, pick-most (is_type Frame t) n, f.after, f.ends);
            small = omega (arith, size, step-most true (placed-step f), v.small, f.after, f.ends);
            frames = y;
            bytes = omega (arith, size, v.bytes, one-length v.front g.obu);
          }
        where
          pick-most : (z : Bool) (i : ℕ) → pick z (suc i) i ≤ suc i
          pick-most true i = omega arith
          pick-most false i = omega arith

-- Laws of runs of packets, measured and written.
use Prim.Native.Nat.{ℕ, ◌+◌, ◌≤◌, ◌<◌}
use native.Mathlib.Omega.{arith}
use mathlib.Core.Path.{◌≡◌, refl, sym, ap, ap₂, ◌∙◌}
use mathlib.Core.List.{List, [], ◌∷◌, ◌++◌, append_assoc, append-nil}
use mathlib.Core.Bool.{Bool, true, false, cond as pick}
use lib.ListN.{length, get_or, length-append}
use lib.Seq.{slice, slice_empty}
use Rattle.bitio.specs.Parse.{accepted}
use Rattle.bitio.specs.Lent.{pasted, Wrote}
use Rattle.bitio.proofs.LentLaws.{pasted-nil, pasted-more, pasted_length}
use Rattle.obu.specs.Obu.{Obu, head_obu_of, obus}
use Rattle.obu.specs.Place.{no_more, wrong, obu_place}
use Rattle.obu.proofs.PlaceLaws.{Placed, is-end, is-wrong}
use Rattle.bitio.proofs.ParseLaws.{length_none}
use Rattle.bitio.specs.Limits.{limit, capped}
use Rattle.obu.specs.Unit.{is_delimiter}
use Rattle.container.specs.Stream.{others}
use Rattle.container.specs.code.Ranges.{Range, here, kept_bytes, Ranged, Measured, Roomy, WroteKept}
use Rattle.container.proofs.StreamLaws.{bytes-append}
use Rattle.container.proofs.RangeLaws.{placed-step, range-one, range-whole, kept-nil}
use Rattle.container.specs.Lists.{listed, unit_of}
use Rattle.packets.specs.code.PacketRuns.{all_parsed, parsed, lead_at, lead_of, Parses, Run}
use Rattle.packets.proofs.SliceLaws.{slice-more, slice-join, slice_at, every-at, every-seam}
use Rattle.container.proofs.LeadLaws.{others-append}
use Rattle.container.proofs.ListLaws.{listed-length, listed-short}

-- ---- the delimiter at the head

pub lead-empty : lead_of [] ≡ []
unfolding head_obu_of
lead-empty = refl

-- no OBU is at the head
pub lead-end : (s : List ℕ) → obu_place s 0 ≡ no_more → Range s 0 0 (lead_of s)
lead-end s e = let k : s ≡ [] = length_none s (omega (arith, is-end s 0 e)) in rw (k, lead-empty) (here {a = 0} (omega arith))

pub lead-wrong : (s : List ℕ) {k : ℕ} → obu_place s 0 ≡ wrong k → Range s 0 0 (lead_of s)
lead-wrong s {k} e = rw (ap lead_at (is-wrong s 0 k e).1) (here {a = 0} (omega arith))

module _ {s : List ℕ} {o : Obu} {a b : ℕ} (p : Placed s 0 o a b) where
  lead-head : lead_of s ≡ pick (is_delimiter o) (o ∷ []) []
  lead-head = ap lead_at p.head

  pub lead-some : is_delimiter o ≡ true → Range s 0 b (lead_of s)
  lead-some e = rw (lead-head, e) (range-one (placed-step p))

  pub lead-other : is_delimiter o ≡ false → Range s 0 0 (lead_of s)
  lead-other e = rw (lead-head, e) (here {a = 0} (omega arith))

-- ---- what is kept of a run

pub kept_append : (keep : Bool) (a b : List Obu) → kept_bytes keep (a ++ b) ≡ kept_bytes keep a ++ kept_bytes keep b
kept_append true a b = bytes-append a b
kept_append false a b = rw (others-append a b) (bytes-append (others a) (others b))

pub parsed-append : (us vs : List (List ℕ)) → all_parsed (us ++ vs) ≡ all_parsed us ++ all_parsed vs
unfolding all_parsed
parsed-append [] vs = refl
parsed-append (u ∷ us) vs = rw (parsed-append us vs, append_assoc (parsed u) (all_parsed us) (all_parsed vs))

pub parsed-one : (u : List ℕ) → all_parsed (u ∷ []) ≡ parsed u
unfolding all_parsed
parsed-one u = append-nil (parsed u)

abbrev pub run_bytes : Bool → List (List ℕ) → ℕ → ℕ → List ℕ
run_bytes keep us a b = kept_bytes keep (all_parsed (slice a b us))

module _ (keep : Bool) (us : List (List ℕ)) where
  pub run_none : (a : ℕ) → run_bytes keep us a a ≡ []
  unfolding all_parsed
  run_none a = rw (slice_empty a us) (kept-nil keep)

  pub run_join : (a m b : ℕ) → a ≤ m → m ≤ b → b ≤ length us → run_bytes keep us a b ≡ run_bytes keep us a m ++ run_bytes keep us m b
  run_join a m b h k n =
      ap (λ l. kept_bytes keep (all_parsed l)) (slice-join a m b us h k n) ∙ ap (kept_bytes keep) (parsed-append (slice a m us) (slice m b us))
      ∙ kept_append keep (all_parsed (slice a m us)) (all_parsed (slice m b us))

  pub run_more : (a i : ℕ) (os : List Obu) → a ≤ i → i < length us → obus (get_or us i []) ≡ accepted os → run_bytes keep us a (i + 1) ≡ run_bytes keep us a i ++ kept_bytes keep os
  run_more a i os h l e =
      ap (λ l. kept_bytes keep (all_parsed l)) (slice-more a i us [] h l) ∙ ap (kept_bytes keep) (parsed-append (slice a i us) (get_or us i [] ∷ []) ∙ ap (λ x. all_parsed (slice a i us) ++ x) (parsed-one (get_or us i [])))
      ∙ rw e (kept_append keep (all_parsed (slice a i us)) os)

-- ---- one packet of a run

module _ {s es : List ℕ} {a b : ℕ} (r : Run s es a b) (i : ℕ) (h : a ≤ i) (l : i < b) where
  abbrev us : List (List ℕ)
  us = listed s es

  inside : b ≤ length us
  inside = omega (arith, listed-length 0 s es, r.within)

  pub run-parses : Parses (unit_of s es i)
  run-parses = every-seam Parses (slice a i us) (unit_of s es i) (slice (i + 1) b us) (rw (slice_at a i b us [] h l inside) at r.parse)

  unit-short : length (unit_of s es i) ≤ limit
  unit-short = let k = every-at (λ u. length u ≤ length s) i us [] (omega (arith, inside)) (listed-short 0 s es) in omega (arith, r.short)

  module _ {u : List ℕ} (q : u ≡ unit_of s es i) where
    range : Range u 0 (length u) run-parses.os
    range = range-whole u (ap (λ x. obus x) q ∙ run-parses.reads)

    pub run-ranged : Ranged u 0 (length u)
    run-ranged = record { short = omega (arith, ap length q, unit-short); os = run-parses.os; range = range }

    more_bytes : (keep : Bool) → run_bytes keep us a (i + 1) ≡ run_bytes keep us a i ++ kept_bytes keep run-parses.os
    more_bytes keep = run_more keep us a i run-parses.os h (omega (arith, inside)) run-parses.reads

    more-length : (keep : Bool) → length (run_bytes keep us a (i + 1)) ≡ length (run_bytes keep us a i) + length (kept_bytes keep run-parses.os)
    more-length keep = ap length (more_bytes keep) ∙ length-append (run_bytes keep us a i) (kept_bytes keep run-parses.os)

    pub run-turn : (keep : Bool) {n m k : ℕ} → n ≡ capped (length (run_bytes keep us a i)) → Measured u 0 (length u) keep m → k ≡ capped (n + m)
        → k ≡ capped (length (run_bytes keep us a (i + 1)))
    run-turn keep {n} {m} {k} p f e = omega (arith, more-length keep, f run-parses.os range)

    module _ (keep : Bool) {d o : List ℕ} {to w : ℕ} (room : to + length (run_bytes keep us a b) ≤ length d) (x : Wrote d to (run_bytes keep us a i) w o) where
      run_fits : to + length (run_bytes keep us a (i + 1)) ≤ length d
      run_fits =
          let e = run_join keep us a (i + 1) b (omega arith) (omega arith) inside in
          omega (arith, ap length e, length-append (run_bytes keep us a (i + 1)) (run_bytes keep us (i + 1) b))

      pub run_long : length o ≡ length d
      run_long = ap length x.out ∙ pasted_length d to (run_bytes keep us a i) (omega (arith, run_fits, more-length keep))

      pub run-roomy : Roomy u 0 (length u) keep o w
      run-roomy = record { os = run-parses.os; range = range; room = omega (arith, run_fits, run_long, more-length keep, x.next) }

      pub run-wrote : {v : ℕ} {p : List ℕ} → WroteKept u 0 (length u) keep o w v p → Wrote d to (run_bytes keep us a (i + 1)) v p
      run-wrote {v} {p} f =
          let y = f run-parses.os range in
          record {
            next = omega (arith, y.next, x.next, more-length keep);
            out =
                y.out ∙ ap₂ (λ g j. pasted g j (kept_bytes keep run-parses.os)) x.out x.next
                ∙ pasted-more d to (run_bytes keep us a i) (omega (arith, run_fits)) (kept_bytes keep run-parses.os) ∙ ap (pasted d to) (sym (more_bytes keep));
          }

-- nothing is written yet
pub run-start : (keep : Bool) (us : List (List ℕ)) (a : ℕ) (d : List ℕ) (to : ℕ) → Wrote d to (run_bytes keep us a a) to d
run-start keep us a d to =
    rw (run_none keep us a) (record { next = omega arith; out = sym (pasted-nil d to) })

-- all is measured, all is written
pub run-done : (keep : Bool) (us : List (List ℕ)) (a i b : ℕ) {n : ℕ} → i ≡ b → n ≡ capped (length (run_bytes keep us a i)) → n ≡ capped (length (run_bytes keep us a b))
run-done keep us a i b e p = rw (← e) p

pub run-wrote-all : (keep : Bool) (us : List (List ℕ)) (a i b : ℕ) {to w : ℕ} {d o : List ℕ} → i ≡ b → Wrote d to (run_bytes keep us a i) w o → Wrote d to (run_bytes keep us a b) w o
run-wrote-all keep us a i b e x = rw (← e) x

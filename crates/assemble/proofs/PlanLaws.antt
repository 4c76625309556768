-- Laws of the plan: for each way in which a stage ends, what it says.
use Prim.Native.Nat.{ℕ, ◌+◌, ◌-◌, ◌≤◌, ◌<◌}
use native.Mathlib.Omega.{arith}
use mathlib.Core.Path.{◌≡◌, refl, sym, ap, ap₂, subst, ◌∙◌}
use mathlib.Core.List.{List, [], ◌∷◌}
use mathlib.Core.Bool.{Bool, true, false, cond as pick}
use mathlib.Core.Option.{Option, none, some}
use lib.ListN.{length}
use lib.Dec.{eqb}
use borrow.Author.Tests.{le-leb, lt-ltb, le-ltb, eqb-true}
use Rattle.std.specs.Prelude.{Result, Ok, Err}
use Rattle.std.specs.Result.{result_unwrap_or}
use Rattle.bitio.specs.Refusal.{says}
use Rattle.bitio.specs.declared.refusal.Refusal.{Refusal}
use Rattle.header.specs.declared.seq_header.SequenceObu.{SequenceObu}
use Rattle.pictures.proofs.HeaderLaws.{read-says}
use Rattle.bitio.specs.Parse.{Answer, refused, accepted, answer, and_next}
use Rattle.bitio.specs.Limits.{limit, limited, capped}
use Rattle.bitio.proofs.LimitLaws.{limit_kept, limit_passed}
use Rattle.bitio.specs.Lent.{span, pasted}
use Rattle.bitio.proofs.LentLaws.{placed-room, lent-room, pasted_length, pasted-front}
use Rattle.obu.specs.Obu.{Obu, obus, obu_bytes}
use Rattle.obu.specs.Unit.{is_type, is_sequence}
use Rattle.obu.specs.Place.{part}
use Rattle.obu.specs.Write.{obu}
use Rattle.obu.specs.declared.reader.Obu.{Obu as CodeObu}
use Rattle.header.specs.Sequence.{Sequence, sequence_of, sequence_in, in_array}
use Rattle.header.specs.Support.{support, supported_sequence}
use Rattle.header.specs.Timed.{is_timed, retimed, with_timing, timed}
use Rattle.emit.specs.Emit.{sequence_bytes, emit_placed, emit_lent}
use Rattle.emittable.specs.Emittable.{emittable}
use Rattle.header.specs.declared.seq_header.SequenceHeader.{SequenceHeader}
use Rattle.header.specs.declared.seq_header.OperatingPoint.{OperatingPoint}
use Rattle.header.proofs.TimedLaws.{timed-of}
use Rattle.blocks.specs.Numbers.{head_key, frames_in}
use Rattle.pictures.specs.Segments.{segments_of}
use Rattle.pictures.specs.Sizes.{sized_all}
use Rattle.pictures.specs.Prepare.{first_of, timed_sequence, Prepared}
use Rattle.pictures.specs.declared.settings.Settings.{Settings}
use Rattle.pictures.specs.Assemble.{Outcome, stopped, made, and_also, verdict, overall, in_segment, same_headers, header_obu, prepare_all, picture_of}
use Rattle.pictures.specs.Flat.{all_segments, later_segments, first_sequence, answer_or, all_prepared, measured}
use Rattle.assemble.specs.code.Stages.{Going, going, WasRead, from_pictures, from_timing, from_header, from_key, checked, planned, new_payload, header_in}
use Rattle.pictures.specs.code.Rewrite.{obu_in}
use Rattle.assemble.specs.declared.headers.Headers.TheVariants.{Own, Renewed}
use Rattle.assemble.specs.declared.headers.Renewal.{Renewal}
use Rattle.pictures.proofs.PrepareLaws.{all-prepared}
use Rattle.assemble.proofs.RenewLaws.{header_read, renewal-emittable, emitted-at-most}

segment-made : {A : Type 0} (i : ℕ) (y : Answer A) (a : A) → made a ≡ in_segment i y → y ≡ accepted a
unfolding in_segment
segment-made i (refused n) a e = let z : ◌≡◌ {A = ℕ} 0 1 = cc in absurd (omega arith)
segment-made i (accepted b) a e = let w : a ≡ b = cc in ap (λ c. accepted c) (sym w)

-- ---- 34 leads

module _ (s rs : List ℕ) (gop : ℕ) where
  pub checked_long : {k : ℕ} → ◌≡◌ {A = Answer (Unit {0})} (refused k) (limited s (accepted tt)) → stopped k none ≡ checked s rs gop
  unfolding checked
  checked_long e = let (m, k) = limit_passed s e in rw (lt-ltb limit (length s) m, k)

  module _ {x : Unit {0}} (e : accepted x ≡ limited s (accepted tt)) where
    pub checked_ranges : {k : ℕ} → ◌≡◌ {A = Answer (Unit {0})} (refused k) (verdict (segments_of s rs)) → stopped k none ≡ checked s rs gop
    unfolding checked and_also overall
    checked_ranges w = rw (le-ltb limit (length s) (limit_kept s e), ← w) refl

    pub checked_sizes : {y : Unit {0}} → accepted y ≡ verdict (segments_of s rs) → sized_all gop (frames_in rs) ≡ checked s rs gop
    unfolding checked and_also overall
    checked_sizes w = rw (le-ltb limit (length s) (limit_kept s e), ← w) refl

-- ---- the first sequence header OBU is one

first-sequence : (os : List Obu) (o : Obu) → first_of 26 is_sequence os ≡ accepted o → o.type ≡ 1
unfolding first_of is_type
first-sequence [] o e = let z : ◌≡◌ {A = ℕ} 0 1 = cc in absurd (omega arith)
first-sequence (p ∷ os) o e = go (first-sequence os o) (eqb p.type 1) refl e
  where
    go : (first_of 26 is_sequence os ≡ accepted o → o.type ≡ 1) → (t : Bool) → eqb p.type 1 ≡ t → pick t (accepted p) (first_of 26 is_sequence os) ≡ accepted o → o.type ≡ 1
    go more true b e = let w : p ≡ o = cc in ap (λ (y : Obu). y.type) (sym w) ∙ eqb-true p.type 1 b
    go more false b e = more e

sequence_type : (u : List ℕ) (o : Obu) → accepted o ≡ first_sequence u → o.type ≡ 1
unfolding and_next
sequence_type u o e = go (obus u) (sym e)
  where
    go : (x : Answer (List Obu)) → and_next x (λ os. first_of 26 is_sequence os) ≡ accepted o → o.type ≡ 1
    go (refused k) e = let z : ◌≡◌ {A = ℕ} 0 1 = cc in absurd (omega arith)
    go (accepted os) e = first-sequence os o e

module _ (s rs : List ℕ) where
  -- ---- per segment

  module _ (q : Sequence) (new : Option (List ℕ)) (header : List ℕ) where
    pub pictures-refused : (k : ℕ) (i : Option ℕ) → stopped k i ≡ measured q new (all_segments s rs) → stopped k i ≡ from_pictures s rs q new header
    unfolding from_pictures and_also
    pictures-refused k i e = go (prepare_all q new 0 (all_segments s rs)) e
      where
        go : (x : Outcome (List Prepared)) → stopped k i ≡ and_also x (λ bs. made (capped (length (picture_of bs)))) → stopped k i ≡ and_also x (λ bs. made (going header bs))
        go (stopped m l) e = same m l e
          where
            same : (m : ℕ) (l : Option ℕ) → ◌≡◌ {A = Outcome ℕ} (stopped k i) (stopped m l) → ◌≡◌ {A = Outcome Going} (stopped k i) (stopped m l)
            same m l e = let a : k ≡ m = cc in let b : i ≡ l = cc in rw (a, b)
        go (made bs) e = let z : ◌≡◌ {A = ℕ} 0 1 = cc in absurd (omega arith)

    pub pictures-made : (n : ℕ) → made n ≡ measured q new (all_segments s rs)
        → made (record { header = header; units = all_prepared q new (all_segments s rs); bytes = n }) ≡ from_pictures s rs q new header
    unfolding from_pictures and_also
    pictures-made n e = go (prepare_all q new 0 (all_segments s rs)) (λ bs i. all-prepared q new 0 (all_segments s rs) bs i) e
      where
        out : List Prepared → ℕ → Outcome Going
        out bs n = made (record { header = header; units = bs; bytes = n })

        go : (x : Outcome (List Prepared)) → ((bs : List Prepared) → x ≡ made bs → bs ≡ all_prepared q new (all_segments s rs))
            → made n ≡ and_also x (λ bs. made (capped (length (picture_of bs)))) → out (all_prepared q new (all_segments s rs)) n ≡ and_also x (λ bs. made (going header bs))
        go (stopped m l) all e = let z : ◌≡◌ {A = ℕ} 0 1 = cc in absurd (omega arith)
        go (made bs) all e =
            let w : n ≡ capped (length (picture_of bs)) = cc in
            ap (λ (l : List Prepared). out l n) (sym (all bs refl)) ∙ ap (out bs) w

  -- ---- timing

  module _ (set : Settings) (o : Obu) (q : Sequence) where
    -- what goes out under the header y, sequence headers replaced by r
    abbrev going_under : Sequence → Option (List ℕ) → Outcome Going
    going_under y r = and_also (prepare_all y r 0 (all_segments s rs)) (λ bs. made (going (header_obu r o) bs))

    -- there already: units go out as they are
    pub timing-there : (header : List ℕ) → is_timed q.header ≡ true → header ≡ obu_bytes o → from_pictures s rs q none header ≡ from_timing s rs set o q
    unfolding from_pictures from_timing
    timing-there header e h =
        ap (λ (l : List ℕ). and_also (prepare_all q none 0 (all_segments s rs)) (λ bs. made (going l bs))) h
        ∙ ap₂ going_under (ap (λ (t : Bool). pick t q (timed_sequence set q)) (sym e)) (ap (λ (t : Bool). pick t none (some (sequence_bytes (timed_sequence set q)))) (sym e))

    -- absent: sequence headers are replaced
    pub timing-new : (x : Sequence) → is_timed q.header ≡ false → x ≡ timed_sequence set q
        → from_pictures s rs x (some (sequence_bytes x)) (obu_bytes (obu 1 none (sequence_bytes x))) ≡ from_timing s rs set o q
    unfolding from_pictures from_timing
    timing-new x e t =
        ap (λ (y : Sequence). going_under y (some (sequence_bytes y))) t
        ∙ ap₂ going_under (ap (λ (t : Bool). pick t q (timed_sequence set q)) (sym e)) (ap (λ (t : Bool). pick t none (some (sequence_bytes (timed_sequence set q)))) (sym e))

  -- sequence headers are replaced by the payload of q
  pub renewed-pictures : (q : Sequence) (new header : List ℕ) → new ≡ sequence_bytes q → header ≡ obu_bytes (obu 1 none new)
      → from_pictures s rs q (some new) header ≡ from_pictures s rs q (some (sequence_bytes q)) (obu_bytes (obu 1 none (sequence_bytes q)))
  renewed-pictures q new header n h = ap₂ (λ (l m : List ℕ). from_pictures s rs q (some l) m) n (h ∙ ap (λ (l : List ℕ). obu_bytes (obu 1 none l)) n)

  -- ---- the first key's header

  module _ (set : Settings) (o : Obu) where
    pub header_refused : (k : ℕ) (i : Option ℕ) → stopped k i ≡ in_segment 0 (answer in_array (supported_sequence o.payload)) → stopped k i ≡ from_header s rs set o
    unfolding from_header and_also in_segment
    header_refused k i e = go (supported_sequence o.payload) e
      where
        go : (x : Answer Sequence) → stopped k i ≡ in_segment 0 (answer in_array x)
            → stopped k i ≡ and_also (in_segment 0 x) (λ q. and_also (same_headers o.payload 1 (later_segments s rs)) (λ _. from_timing s rs set o q))
        go (refused n) e = let a : k ≡ n = cc in let b : i ≡ some 0 = cc in rw (a, b) refl
        go (accepted q) e = let z : ◌≡◌ {A = ℕ} 0 1 = cc in absurd (omega arith)

    module _ (q : SequenceObu) (read : made q ≡ in_segment 0 (answer in_array (supported_sequence o.payload))) where
      pub header_supported : accepted (sequence_in q) ≡ supported_sequence o.payload
      header_supported = sym (ap (answer sequence_in) (segment-made 0 (answer in_array (supported_sequence o.payload)) q read)) ∙ read-says o.payload

      pub header-other : (k : ℕ) (i : Option ℕ) → stopped k i ≡ same_headers o.payload 1 (later_segments s rs) → stopped k i ≡ from_header s rs set o
      unfolding from_header and_also in_segment
      header-other k i e = rw (← header_supported, ← e)

      pub header-same : made tt ≡ same_headers o.payload 1 (later_segments s rs) → from_timing s rs set o (sequence_in q) ≡ from_header s rs set o
      unfolding from_header and_also in_segment
      header-same e = rw (← header_supported, ← e)

  -- ---- all that comes before 35

  module _ (set : Settings) where
    pub plan_unchecked : (k : ℕ) (i : Option ℕ) → stopped k i ≡ checked s rs set.gop → stopped k i ≡ planned s rs set
    unfolding planned and_also
    plan_unchecked k i e = rw (← e)

    -- y: what is found in v, the first key
    module _ (fit : made tt ≡ checked s rs set.gop) (v : List ℕ) (u : v ≡ head_key s rs) (y : Answer CodeObu) (f : answer (obu_in v) y ≡ first_sequence v) where
      key_found : answer (obu_in (head_key s rs)) y ≡ first_sequence (head_key s rs)
      key_found = subst (λ (l : List ℕ). answer (obu_in l) y ≡ first_sequence l) u f

      whole : planned s rs set ≡ and_also (in_segment 0 (answer (obu_in (head_key s rs)) y)) (λ o. from_header s rs set o)
      unfolding planned from_key and_also
      whole = rw (← fit, key_found) refl

      pub plan-unfound : (k : ℕ) (i : Option ℕ) → stopped k i ≡ in_segment 0 y → stopped k i ≡ planned s rs set
      unfolding and_also in_segment
      plan-unfound k i e = go y e ∙ sym whole
        where
          go : (x : Answer CodeObu) → stopped k i ≡ in_segment 0 x → stopped k i ≡ and_also (in_segment 0 (answer (obu_in (head_key s rs)) x)) (λ o. from_header s rs set o)
          go (refused n) e = let a : k ≡ n = cc in let b : i ≡ some 0 = cc in rw (a, b) refl
          go (accepted o) e = let z : ◌≡◌ {A = ℕ} 0 1 = cc in absurd (omega arith)

      module _ (o : CodeObu) (e : made o ≡ in_segment 0 y) where
        pub plan-found : from_header s rs set (obu_in (head_key s rs) o) ≡ planned s rs set
        unfolding and_also in_segment
        plan-found =
            sym (whole ∙ ap (λ (x : Answer CodeObu). and_also (in_segment 0 (answer (obu_in (head_key s rs)) x)) (λ o. from_header s rs set o)) (segment-made 0 y o e))

        pub found_type : o.obu_type ≡ 1
        found_type = sequence_type (head_key s rs) (obu_in (head_key s rs) o) (sym (ap (answer (obu_in (head_key s rs))) (segment-made 0 y o e)) ∙ key_found)

-- ---- the header that goes out

-- the first key's own, of type 1
pub header-own : (s rs : List ℕ) (o : CodeObu) → o.obu_type ≡ 1 → header_in s rs (Own o) ≡ obu_bytes (obu_in (head_key s rs) o)
unfolding header_in
header-own s rs o t = rw t

pub header-new : (s rs : List ℕ) (new : Renewal) → header_in s rs (Renewed new) ≡ obu_bytes (obu 1 none (new_payload new))
unfolding header_in
header-new s rs new = refl

module _ (h : SequenceHeader) (points : List OperatingPoint) (set : Settings) (w : WasRead (sequence_of h points)) where
  was-supported : support h ≡ accepted tt
  was-supported = (header_read w.payload (sequence_of h points) w.read).1

  pub never-refused : {A : Type 0} (k : ℕ) → refused k ≡ timed set.fps set.den h → A
  never-refused k e = let i = e ∙ timed-of set.fps set.den h was-supported in let z : ◌≡◌ {A = ℕ} 0 1 = cc in absurd (omega arith)

  -- the header timed
  pub timed-header : (t : SequenceHeader) → accepted t ≡ timed set.fps set.den h → t ≡ with_timing set.fps set.den h
  timed-header t e = let i = e ∙ timed-of set.fps set.den h was-supported in let w : t ≡ with_timing set.fps set.den h = cc in w

  pub timed-whole : (t : SequenceHeader) → accepted t ≡ timed set.fps set.den h → sequence_of t points ≡ timed_sequence set (sequence_of h points)
  unfolding with_timing retimed
  timed-whole t e = ap (λ (y : SequenceHeader). sequence_of y points) (timed-header t e)

  -- it can be emitted
  pub timed-emits : (t : SequenceHeader) → accepted t ≡ timed set.fps set.den h → set.fps < 4294967296 → set.den < 4294967296 → emittable (sequence_of t points) ≡ true
  timed-emits t e a b = ap emittable (timed-whole t e) ∙ renewal-emittable set w.payload (sequence_of h points) w.read a b

-- ---- a payload emitted at the head of an array

headed : (d xs : List ℕ) → 0 + length xs ≤ length d → part (pasted d 0 xs) 0 (length xs) ≡ xs
unfolding part span
headed d xs h =
    let z : length xs - 0 ≡ length xs = omega arith in
    let l : length xs ≤ length (pasted d 0 xs) = omega (arith, h, pasted_length d 0 xs h) in
    rw (le-leb 0 (length xs) (omega arith), le-leb (length xs) (length (pasted d 0 xs)) l, z)
    (pasted-front d xs (length xs) refl)

or_zero : (r : Result ℕ Refusal) → result_unwrap_or r 0 ≡ answer_or 0 (says r)
or_zero (Ok n) = refl
or_zero (Err k) = refl

pub new-there : (d array : List ℕ) (r : Result ℕ Refusal) (n : ℕ) (q : Sequence) → emittable q ≡ true → 400 ≤ length d → array ≡ emit_lent d 0 q → says r ≡ emit_placed d 0 q → n ≡ result_unwrap_or r 0
    → part array 0 n ≡ sequence_bytes q
unfolding emit_lent emit_placed
new-there d array r n q good room e f g =
    let fits : 0 + length (sequence_bytes q) ≤ length d = omega (arith, emitted-at-most q good, room) in
    let i : array ≡ pasted d 0 (sequence_bytes q) = e ∙ rw good (lent-room d 0 (sequence_bytes q) fits) in
    let j : n ≡ length (sequence_bytes q) = g ∙ or_zero r ∙ ap (answer_or 0) f ∙ rw (good, placed-room d 0 (sequence_bytes q) fits) (omega arith) in
    ap (λ (l : List ℕ). part l 0 n) i ∙ ap (part (pasted d 0 (sequence_bytes q)) 0) j ∙ headed d (sequence_bytes q) fits

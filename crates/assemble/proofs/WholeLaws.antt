-- Laws of the whole of assembly: what is asked before it is written, and that the lent memory holds what is handed out.
use Prim.Native.Nat.{ℕ, zero, suc, ◌*◌, ◌≤◌}
use native.Mathlib.Omega.{arith}
use mathlib.Core.Path.{◌≡◌, refl, sym, ap, ◌∙◌}
use mathlib.Core.List.{List, map, flat_map}
use mathlib.Core.Bool.{Bool, true, false, cond as pick}
use mathlib.Core.Option.{Option, none}
use lib.ListN.{length}
use Rattle.std.specs.Prelude.{None, Result, Ok, Err}
use Rattle.bitio.specs.declared.refusal.Refusal.TheVariants.{NoRoom}
use Rattle.bitio.specs.Limits.{limit, capped}
use Rattle.bitio.specs.Lent.{pasted}
use Rattle.header.specs.Sequence.{Sequence, sequence_in}
use Rattle.blocks.specs.Blocks.{list_of, cues_of}
use Rattle.blocks.specs.Numbers.{head_key, head_golden, segment_count, records_from, frames_in}
use Rattle.blocks.specs.code.Lay.{CanLayAll}
use Rattle.pictures.specs.Segments.{segment_in}
use Rattle.pictures.specs.Prepare.{Prepared, show_unit}
use Rattle.pictures.specs.declared.settings.Settings.{Settings}
use Rattle.pictures.specs.Assemble.{Outcome, stopped, made, and_also, picture_of, ends_from, shows_of, first_slot, Output, output_of, OutputRoom, output_fits, fitted}
use Rattle.pictures.specs.Flat.{all_segments, judged, answer_or, rewriting, all_prepared, all_sent, slots_of}
use Rattle.assemble.specs.Whole.{counts, counts_of, Lent, outcome, lent_after, Handed, output_room}
use Rattle.assemble.specs.code.Stages.{Going, planned, renewal_in, header_in, plan_going, plan_says, needed, fits_in}
use Rattle.assemble.specs.declared.multi.Counts.{Counts}
use Rattle.pictures.specs.declared.fault.Fault.{Fault}
use Rattle.assemble.specs.declared.plan.Plan.{Plan}
use Rattle.assemble.proofs.AnswerLaws.{kept}
use Rattle.pictures.proofs.PrepareLaws.{picture-sent, ends-sent, shows-slots, length-prepared, length-ends, length-shows, length-all}
use Rattle.assemble.proofs.StageLaws.{Sound, fitted_out, assemble-staged, planned-sound, planned-weighed}
use Rattle.assemble.proofs.MultiLaws.{length-list, same-counts, fits-same, RoomForAll, fits-roomy}

-- the first segment's slot
slot-first : (s rs : List ℕ) (q : Sequence) (new : Option (List ℕ)) (n : ℕ) → 1 ≤ n
    → answer_or 0 (judged q (rewriting new) (head_key s rs) (head_golden s rs)) ≡ first_slot (all_prepared q new (map (segment_in s) (records_from n rs)))
unfolding records_from
slot-first s rs q new zero h = absurd (omega arith)
slot-first s rs q new (suc n) h = refl

-- lent slices that agree in each
same-lent : {l l' c c' p p' e e' w w' h h' : List ℕ} → l ≡ l' → c ≡ c' → p ≡ p' → e ≡ e' → w ≡ w' → h ≡ h'
    → ◌≡◌ {A = Lent} (record { list = l; cues = c; pictures = p; ends = e; shows = w; header = h }) (record { list = l'; cues = c'; pictures = p'; ends = e'; shows = w'; header = h' })
same-lent a b d i j k = rw (a, b, d, i, j, k)

module _ (s rs : List ℕ) (set : Settings) (d : Lent) where
  abbrev room : OutputRoom
  room = output_room d

  abbrev whole : Outcome Output
  whole = outcome s rs set d

  whole-staged : whole ≡ and_also (planned s rs set) (fitted_out room set (frames_in rs))
  unfolding outcome
  whole-staged = assemble-staged room set s rs

  -- the answer r, the lent slices being d' at exit
  abbrev Gives : Result Counts Fault → Lent → Type 0
  Gives r d' = Handed (outcome s rs set) r (record { entry = d; exit = d' })

  -- ---- refusals

  pub plan-refused : (f : Fault) → plan_says s rs (Err f) ≡ planned s rs set → Gives (Err f) d
  unfolding and_also
  plan-refused f e =
      kept (outcome s rs set) d _ refl (whole-staged ∙ ap (λ (x : Outcome Going). and_also x (fitted_out room set (frames_in rs))) (sym e))

  -- ---- what goes out

  module _ (p : Plan) (ready : made (plan_going s rs p) ≡ planned s rs set) where
    abbrev new : Option (List ℕ)
    new = renewal_in p.headers

    abbrev prepared : List Prepared
    prepared = all_prepared (sequence_in p.sequence) new (all_segments s rs)

    abbrev sents : List Prepared
    sents = all_sent new (all_segments s rs)

    abbrev output : Output
    output = output_of set.gop (frames_in rs) (header_in s rs p.headers) prepared

    abbrev need : Counts
    need = needed set.gop s rs p

    pub sound : Sound set.gop rs
    sound = planned-sound s rs set (plan_going s rs p) (sym ready)

    weighed : p.bytes ≡ capped (length (picture_of prepared))
    weighed = planned-weighed s rs set (plan_going s rs p) (sym ready)

    length-units : length prepared ≡ segment_count rs
    length-units = length-prepared (sequence_in p.sequence) new (all_segments s rs) ∙ length-all s rs

    ends-are : 2 * segment_count rs ≡ length (ends_from 0 prepared)
    ends-are = omega (arith, length-ends 0 prepared, length-units)

    shows-are : 5 * segment_count rs ≡ length (shows_of prepared)
    shows-are = omega (arith, length-shows prepared, length-units)

    whole_is : whole ≡ fitted room output
    unfolding and_also
    whole_is = whole-staged ∙ ap (λ (x : Outcome Going). and_also x (fitted_out room set (frames_in rs))) (sym ready)

    fit_is : fits_in room need ≡ output_fits room output
    fit_is = fits-same room need output refl refl weighed ends-are shows-are refl

    -- 35
    pub full : false ≡ fits_in room need → Gives (Err (record { refusal = NoRoom; segment = None })) d
    full e = kept (outcome s rs set) d _ refl (whole_is ∙ ap (λ (t : Bool). pick t (made output) (stopped 35 none)) (sym (e ∙ fit_is)))

    module _ (fit : true ≡ fits_in room need) where
      roomy : RoomForAll room output
      roomy = fits-roomy room output (sym (fit ∙ fit_is))

      made-is : whole ≡ made output
      made-is = whole_is ∙ ap (λ (t : Bool). pick t (made output) (stopped 35 none)) (sym (fit ∙ fit_is))

      counts-are : need ≡ counts output
      counts-are =
          same-counts refl refl (omega (arith, weighed, roomy.bytes)) ends-are shows-are (omega (arith, roomy.bytes))
          (slot-first s rs (sequence_in p.sequence) new (segment_count rs) sound.some-there)

      pub can-lay : CanLayAll d.list d.cues set.gop rs
      can-lay =
          let l = length-list set.gop (frames_in rs) (omega (arith, sound.gop-size)) in
          record {
            segments = omega (arith, sound.count);
            gop-size = omega (arith, sound.gop-size);
            room = record { list = omega (arith, roomy.list); cues = omega (arith, roomy.cues); small = omega (arith, l, sound.small) };
          }

      pub can-pictures : (length (picture_of sents) ≤ limit) × ((length (picture_of sents) ≤ length d.pictures) × (2 * length (all_segments s rs) ≤ length d.ends))
      can-pictures =
          let l = ap length (picture-sent (sequence_in p.sequence) new (all_segments s rs)) in
          (omega (arith, l, roomy.bytes), (omega (arith, l, roomy.picture), omega (arith, length-all s rs, ends-are, roomy.ends)))

      pub can-shows : 5 * length (all_segments s rs) ≤ length d.shows
      can-shows = omega (arith, length-all s rs, shows-are, roomy.shows)

      pub can-header : length (header_in s rs p.headers) ≤ length d.header
      can-header = roomy.header

      pub all_made : (r : Counts) (d' : Lent) → r ≡ need → d'.list ≡ pasted d.list 0 (list_of set.gop (frames_in rs)) → d'.cues ≡ pasted d.cues 0 (cues_of (list_of set.gop (frames_in rs)))
          → d'.pictures ≡ pasted d.pictures 0 (picture_of sents) → d'.ends ≡ pasted d.ends 0 (ends_from 0 sents)
          → d'.shows ≡ pasted d.shows 0 (flat_map show_unit (slots_of (sequence_in p.sequence) (rewriting new) (all_segments s rs))) → d'.header ≡ pasted d.header 0 (header_in s rs p.headers)
          → Gives (Ok r) d'
      unfolding and_also
      all_made r d' i il ic ip ie iw ih =
          let q = sequence_in p.sequence in
          record {
            answer = ap (λ (x : Counts). made x) (i ∙ counts-are) ∙ sym (ap counts_of made-is);
            lent =
                same-lent il ic
                (ip ∙ sym (ap (pasted d.pictures 0) (picture-sent q new (all_segments s rs))))
                (ie ∙ sym (ap (pasted d.ends 0) (ends-sent q new 0 (all_segments s rs))))
                (iw ∙ sym (ap (pasted d.shows 0) (shows-slots q new (all_segments s rs))))
                ih
                ∙ sym (ap (λ (x : Outcome Output). lent_after x d) made-is);
          }

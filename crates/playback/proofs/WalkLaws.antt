-- Laws of the whole way: assembly, and what follows it.
use Prim.Native.Nat.{ℕ}
use mathlib.Core.Path.{◌≡◌, refl, ap, subst, ◌∙◌}
use mathlib.Core.List.{List}
use lib.ListN.{length, take}
use Rattle.std.specs.Prelude.{Result, Ok, Err, None}
use Rattle.bitio.specs.Parse.{Answer, refused, accepted}
use Rattle.bitio.specs.Refusal.{number, says}
use Rattle.bitio.specs.declared.refusal.Refusal.{Refusal}
use Rattle.container.specs.Units.{count_of}
use Rattle.container.specs.Container.{Container}
use Rattle.pictures.specs.declared.settings.Settings.{Settings}
use Rattle.pictures.specs.declared.fault.Fault.{Fault}
use Rattle.pictures.specs.Says.{segment_says, outcome_of}
use Rattle.pictures.specs.Assemble.{Outcome, made, and_also, overall, Output, units_of}
use Rattle.assemble.specs.Whole.{Lent, outcome, Handed}
use Rattle.assemble.specs.declared.multi.Counts.{Counts}
use Rattle.assemble.proofs.AnswerLaws.{stopped-is, Made, made_of}
use Rattle.playback.specs.Gather.{units_named}
use Rattle.playback.specs.Shown.{Shows}
use Rattle.playback.specs.Way.{PlayLent, shown, Plays}
use Rattle.playback.specs.Walk.{walk, Walks}

-- ---- what the answers say

pub overall-ok : (n : ℕ) → outcome_of {A = ℕ} (Ok n) ≡ overall (says {A = ℕ} (Ok n))
unfolding overall
overall-ok n = refl

pub overall-err : (e : Refusal) → outcome_of {A = ℕ} (Err (record { refusal = e; segment = None })) ≡ overall (says {A = ℕ} (Err e))
unfolding overall
overall-err e = refl

-- ---- the whole

-- assembly into the slices l has left l'
module _ (s rs : List ℕ) (set : Settings) (l l' : Lent) where
  abbrev x : Outcome Output
  x = outcome s rs set l

  pub walk-stop : (c : Container) (cue : ℕ) (f : Fault) → Handed (outcome s rs set) (Err f) (record { entry = l; exit = l' })
      → (d : PlayLent) → Walks c cue (outcome s rs set) (Err f) (record { entry = l; exit = l' }) (record { entry = d; exit = d })
  unfolding walk and_also
  walk-stop c cue f h d =
      let e = stopped-is x (number f.refusal) (segment_says f.segment) h.answer in
      record { answer = rw e; assembled = h.lent; way = rw e }

  module _ (t : Counts) (h : Handed (outcome s rs set) (Ok t) (record { entry = l; exit = l' })) where
    abbrev m : Made x t l'
    m = made_of h

    units-are : units_named (take t.units l'.list) (take t.picture l'.pictures) (take t.ends l'.ends) (take t.shows l'.shows) ≡ units_of m.output
    unfolding units_named units_of
    units-are = rw (m.list, m.pictures, m.ends, m.shows)

    pub walk-go : (c : Container) (cue : ℕ) (d d' : PlayLent) (r : Result ℕ Fault) (p : Result ℕ Refusal) → outcome_of r ≡ overall (says p)
        → Plays c (units_named (take t.units l'.list) (take t.picture l'.pictures) (take t.ends l'.ends) (take t.shows l'.shows)) cue p (record { entry = d; exit = d' })
        → Walks c cue (outcome s rs set) r (record { entry = l; exit = l' }) (record { entry = d; exit = d' })
    unfolding walk and_also overall
    walk-go c cue d d' r p v w =
        let z = subst (λ vs. Plays c vs cue p (record { entry = d; exit = d' })) units-are w in
        record {
          answer = v ∙ ap overall z.answer ∙ go (shown c (units_of m.output) cue d) ∙ rw m.is;
          assembled = h.lent;
          way = z.lent ∙ rw m.is;
        }
      where
        go : (y : Answer Shows) → overall (count_of y) ≡ and_also (overall y) (λ ns. made (length ns))
        go (refused k) = refl
        go (accepted xs) = refl

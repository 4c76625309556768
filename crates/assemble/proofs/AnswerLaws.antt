-- Laws of an answer with the lent slices: what a refusal leaves, what is made, and the same by another outcome.
use Prim.Native.Nat.{ℕ}
use native.Mathlib.Omega.{arith}
use mathlib.Core.Path.{◌≡◌, refl, sym, ap, ◌∙◌}
use mathlib.Core.Option.{Option}
use lib.ListN.{length, take}
use Rattle.std.specs.Prelude.{Result, Ok}
use denote.Triple.Both.{Both}
use Rattle.bitio.proofs.LentLaws.{pasted-front}
use Rattle.pictures.specs.Assemble.{Outcome, stopped, made, and_also, Output}
use Rattle.pictures.specs.declared.fault.Fault.{Fault}
use Rattle.pictures.specs.Says.{outcome_of}
use Rattle.assemble.specs.Whole.{counts, counts_of, Lent, lent_after, Handed}
use Rattle.assemble.specs.declared.multi.Counts.{Counts}

-- an outcome whose counts are a refusal is that refusal
pub stopped-is : (x : Outcome Output) (k : ℕ) (i : Option ℕ) → stopped k i ≡ counts_of x → x ≡ stopped k i
unfolding and_also
stopped-is (stopped n j) k i e =
    let a : k ≡ n = cc in
    let b : i ≡ j = cc in
    rw (a, b) refl
stopped-is (made o) k i e = let z : ◌≡◌ {A = ℕ} 0 1 = cc in absurd (omega arith)

-- a refusal leaves the lent slices as they were
pub kept : (x : Lent → Outcome Output) (d : Lent) (r : Result Counts Fault) {k : ℕ} {i : Option ℕ} → outcome_of r ≡ stopped k i → x d ≡ stopped k i → Handed x r (record { entry = d; exit = d })
unfolding and_also
kept x d r e w = record { answer = e ∙ sym (ap counts_of w); lent = sym (ap (λ (o : Outcome Output). lent_after o d) w) }

pub retold : {x y : Lent → Outcome Output} {r : Result Counts Fault} {d : Both Lent Lent} → x d.entry ≡ y d.entry → Handed x r d → Handed y r d
retold {d = d} e h = record { answer = h.answer ∙ ap counts_of e; lent = h.lent ∙ ap (λ (o : Outcome Output). lent_after o d.entry) e }

-- what was made: c counts it, and it stands at the heads of the slices d'
pub record Made (x : Outcome Output) (c : Counts) (d' : Lent) : Type 0 where
  pub output : Output
  pub is : x ≡ made output
  pub counted : c ≡ counts output
  pub list : take c.units d'.list ≡ output.list
  pub pictures : take c.picture d'.pictures ≡ output.picture
  pub ends : take c.ends d'.ends ≡ output.ends
  pub shows : take c.shows d'.shows ≡ output.shows

pub made_of : {x : Lent → Outcome Output} {c : Counts} {d d' : Lent} → Handed x (Ok c) (record { entry = d; exit = d' }) → Made (x d) c d'
unfolding and_also
made_of {x} {c} {d} {d'} w = go (x d) w.answer w.lent
  where
    go : (y : Outcome Output) → made c ≡ counts_of y → d' ≡ lent_after y d → Made y c d'
    go (stopped n i) e p = cc
    go (made o) e p =
        let k : c ≡ counts o = cc in
        record {
          output = o;
          is = refl;
          counted = k;
          list = rw (p, k) (pasted-front d.list o.list (length o.list) refl);
          pictures = rw (p, k) (pasted-front d.pictures o.picture (length o.picture) refl);
          ends = rw (p, k) (pasted-front d.ends o.ends (length o.ends) refl);
          shows = rw (p, k) (pasted-front d.shows o.shows (length o.shows) refl);
        }

-- Laws of a segment judged: what is asked of its units, and its units as they go out.
use Prim.Native.Nat.{ℕ}
use mathlib.Core.Path.{◌≡◌, refl, sym, ◌∙◌}
use mathlib.Core.List.{List, [], map}
use mathlib.Core.Bool.{false, cond as pick}
use mathlib.Core.Option.{Option, none, some}
use Rattle.bitio.specs.Parse.{Answer, refused, accepted, and_next}
use Rattle.bitio.proofs.ParseLaws.{next-chain}
use Rattle.obu.specs.Obu.{Obu, obus, unit_bytes}
use Rattle.obu.specs.Unit.{has, is_sequence}
use Rattle.header.specs.Sequence.{Sequence}
use Rattle.pictures.specs.Segments.{Segment}
use Rattle.frame.specs.UnitFrame.{unit_frame}
use Rattle.pictures.specs.Prepare.{renewed, sent, key_ok, golden_flags, asked, Prepared, prepare}
use Rattle.pictures.specs.Assemble.{verdict}
use Rattle.pictures.specs.Flat.{judged, rewriting, answer_or, sent_bytes}

-- ---- chains of answers

pub next-same : {A B : Type 0} (x : Answer A) (f g : A → Answer B) → ((a : A) → f a ≡ g a) → and_next x f ≡ and_next x g
unfolding and_next
next-same (refused k) f g e = refl
next-same (accepted a) f g e = e a

-- ---- what is asked of the frames, and then the slot

asked-out : {A : Type 0} (q : Sequence) (k g : List ℕ) (f : ℕ → Answer A) → and_next (asked q k g (λ n. accepted n)) f ≡ asked q k g f
unfolding and_next
asked-out q k g f =
    next-chain (unit_frame false q k) _ f
    ∙ next-same (unit_frame false q k) _ _ (λ y. next-chain (key_ok y) _ f
    ∙ next-same (key_ok y) _ _ (λ _. next-chain (unit_frame false q g) _ f
    ∙ next-same (unit_frame false q g) _ _ (λ z. next-chain (golden_flags z) _ f)))

-- ---- a segment is prepared if it is judged, and then its units are those that go out

module _ (q : Sequence) (new : List ℕ) (x : Segment) where
  -- a unit whose OBUs are a, rewritten
  abbrev rewritten_of : List ℕ → Answer (List Obu) → Answer (List ℕ)
  rewritten_of u a = and_next a (λ os. accepted (pick (has is_sequence os) (unit_bytes (map (renewed new) os)) u))

  abbrev prepared_by : List ℕ → List ℕ → ℕ → Answer Prepared
  prepared_by k g n = accepted (record { key = k; golden = g; slot = n })

  by-obus : (a b : Answer (List Obu))
      → and_next (rewritten_of x.key a) (λ k. and_next (rewritten_of x.golden b) (λ g. asked q x.key x.golden (prepared_by k g)))
      ≡ and_next (and_next (verdict a) (λ _. and_next (verdict b) (λ _. asked q x.key x.golden (λ n. accepted n)))) (prepared_by (answer_or [] (rewritten_of x.key a)) (answer_or [] (rewritten_of x.golden b)))
  unfolding and_next
  by-obus (refused k) b = refl
  by-obus (accepted os) (refused k) = refl
  by-obus (accepted os) (accepted ps) = sym (asked-out q x.key x.golden _)

pub prepare-judged : (q : Sequence) (new : Option (List ℕ)) (x : Segment)
    → prepare q new x
    ≡ and_next (judged q (rewriting new) x.key x.golden) (λ slot. accepted (record { key = sent_bytes new x.key; golden = sent_bytes new x.golden; slot = slot }))
unfolding prepare judged sent and_next
prepare-judged q (some new) x = by-obus q new x (obus x.key) (obus x.golden)
prepare-judged q none x = sym (asked-out q x.key x.golden _)

-- The frame of a unit, where the unit's frames are counted.
use Prim.Native.Nat.{ℕ}
use native.Mathlib.Omega.{arith}
use mathlib.Core.Path.{◌≡◌, ap}
use mathlib.Core.List.{List, []}
use mathlib.Core.Bool.{Bool, true, false, ◌&&◌}
use lib.Dec.{ltb}
use borrow.Author.Tests.{ne_eqb}
use Rattle.bitio.specs.Parse.{Answer, refused, accepted, answer, and_next}
use Rattle.obu.specs.Obu.{Obu, obus}
use Rattle.obu.specs.Unit.{is_frame, count, first_payload, of_unit}
use Rattle.header.specs.Sequence.{Sequence}
use Rattle.frame.specs.Frame.{parse_frame}
use Rattle.frame.specs.UnitFrame.{frame_payload, unit_frame}

module _ (sole : Bool) (q : Sequence) (u : List ℕ) where
  abbrev counted : Answer (List Obu) → Answer ℕ
  counted x = answer (count is_frame) x

  pub frame_refused : (k : ℕ) → refused k ≡ counted (obus u) → refused k ≡ unit_frame sole q u
  unfolding unit_frame and_next
  frame_refused k e = go (obus u) e
    where
      go : (x : Answer (List Obu)) → refused k ≡ counted x → refused k ≡ and_next x (λ os. and_next (frame_payload sole os) (λ f. parse_frame q f))
      go (refused j) e = let i : k ≡ j = cc in ap (λ y. refused y) i
      go (accepted os) e = let z : ◌≡◌ {A = ℕ} 0 1 = cc in absurd (omega arith)

  module _ (n : ℕ) (e : accepted n ≡ counted (obus u)) where
    pub frame-none : n ≡ 0 → refused 28 ≡ unit_frame sole q u
    unfolding unit_frame and_next frame_payload
    frame-none h = go (obus u) e
      where
        go : (x : Answer (List Obu)) → accepted n ≡ counted x → refused 28 ≡ and_next x (λ os. and_next (frame_payload sole os) (λ f. parse_frame q f))
        go (refused j) e = let z : ◌≡◌ {A = ℕ} 0 1 = cc in absurd (omega arith)
        go (accepted os) e = let i : count is_frame os ≡ n = cc in rw (i, h)

    pub frame-many : (n ≡ 0 → ⊥) → (sole && ltb 1 n) ≡ true → refused 39 ≡ unit_frame sole q u
    unfolding unit_frame and_next frame_payload
    frame-many some_one h = go (obus u) e
      where
        go : (x : Answer (List Obu)) → accepted n ≡ counted x → refused 39 ≡ and_next x (λ os. and_next (frame_payload sole os) (λ f. parse_frame q f))
        go (refused j) e = let z : ◌≡◌ {A = ℕ} 0 1 = cc in absurd (omega arith)
        go (accepted os) e = let i : count is_frame os ≡ n = cc in rw (i, ne_eqb n 0 some_one, h)

    pub frame-read : (p : List ℕ) → (n ≡ 0 → ⊥) → (sole && ltb 1 n) ≡ false → p ≡ of_unit [] (first_payload is_frame) (obus u) → parse_frame q p ≡ unit_frame sole q u
    unfolding unit_frame and_next frame_payload
    frame-read p some_one h g = go (obus u) e g
      where
        go : (x : Answer (List Obu)) → accepted n ≡ counted x → p ≡ of_unit [] (first_payload is_frame) x → parse_frame q p ≡ and_next x (λ os. and_next (frame_payload sole os) (λ f. parse_frame q f))
        go (refused j) e g = let z : ◌≡◌ {A = ℕ} 0 1 = cc in absurd (omega arith)
        go (accepted os) e g = let i : count is_frame os ≡ n = cc in rw (i, ne_eqb n 0 some_one, h) (ap (parse_frame q) g)

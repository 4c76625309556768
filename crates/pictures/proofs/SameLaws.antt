-- Laws of payloads compared: bytes, the last sequence payload of a key, and later keys one after the other.
use Prim.Native.Nat.{ℕ, suc, ◌+◌, ◌≤◌, ◌<◌}
use native.Mathlib.Omega.{arith}
use native.Mathlib.Numerals.{add-one}
use mathlib.Core.Path.{◌≡◌, refl, sym, ap, ◌∙◌}
use mathlib.Core.List.{List, [], ◌∷◌}
use mathlib.Core.Bool.{Bool, true, false, cond as pick, ◌&&◌}
use mathlib.Core.Option.{Option}
use lib.Dec.{eqb, leb}
use lib.Pointwise.{pointwise}
use borrow.Author.Tests.{le-leb}
use Rattle.bitio.specs.Parse.{Answer, refused, accepted, answer, and_next}
use Rattle.obu.specs.Obu.{Obu, obus}
use Rattle.obu.specs.Unit.{count, has, last_payload, of_unit, is_sequence}
use Rattle.obu.proofs.UnitLaws.{has-count}
use Rattle.blocks.specs.Numbers.{segment_count, key_at, golden_at}
use Rattle.pictures.specs.Assemble.{Outcome, stopped, made, and_also, in_segment, same_bytes, same_header, same_headers}
use Rattle.pictures.specs.Flat.{later_segments}
use Rattle.pictures.proofs.SegmentLaws.{segments_behind, segments-end, segments-next}

-- ---- bytes compared

-- as the library compares slices
pub same-is : (a b : List ℕ) → pointwise eqb a b ≡ same_bytes a b
unfolding same_bytes
same-is [] [] = refl
same-is [] (y ∷ b) = refl
same-is (x ∷ a) [] = refl
same-is (x ∷ a) (y ∷ b) = ap (λ t. eqb x y && t) (same-is a b)

-- ---- the last sequence payload of a key

module _ (s : List ℕ) where
  abbrev pub compared : Answer (List Obu) → Answer Unit
  compared x = and_next x (λ os. same_header s os)

  abbrev sequences_in : Answer (List Obu) → Answer ℕ
  sequences_in x = answer (count is_sequence) x

  pub last-refused : (x : Answer (List Obu)) (k : ℕ) → refused k ≡ sequences_in x → refused k ≡ compared x
  unfolding and_next
  last-refused (refused j) k e = let i : k ≡ j = cc in ap (λ y. refused y) i
  last-refused (accepted os) k e = let z : ◌≡◌ {A = ℕ} 0 1 = cc in absurd (omega arith)

  pub last-missing : (x : Answer (List Obu)) (n : ℕ) → accepted n ≡ sequences_in x → n ≡ 0 → refused 27 ≡ compared x
  unfolding and_next
  last-missing (refused j) n e h = let z : ◌≡◌ {A = ℕ} 0 1 = cc in absurd (omega arith)
  last-missing (accepted os) n e h =
      let i : count is_sequence os ≡ n = cc in
      let z : has is_sequence os ≡ false = sym (has-count is_sequence os) ∙ ap (leb 1) (i ∙ h) in
      rw z

  pub last-there : (x : Answer (List Obu)) (n : ℕ) → accepted n ≡ sequences_in x → (n ≡ 0 → ⊥)
      → (b : Bool) (p : List ℕ) → b ≡ same_bytes p s → p ≡ of_unit [] (last_payload is_sequence) x → pick b (accepted tt) (refused 27) ≡ compared x
  unfolding and_next
  last-there (refused j) n e h b p g i = let z : ◌≡◌ {A = ℕ} 0 1 = cc in absurd (omega arith)
  last-there (accepted os) n e h b p g i =
      let w : count is_sequence os ≡ n = cc in
      let z : has is_sequence os ≡ true = sym (has-count is_sequence os) ∙ le-leb 1 (count is_sequence os) (omega (arith, h, w)) in
      let y : b ≡ same_bytes (last_payload is_sequence os) s = g ∙ ap (λ l. same_bytes l s) i in
      rw (z, ← y)

-- ---- later keys, one after the other

abbrev all_same : List ℕ → List ℕ → List ℕ → Outcome Unit
all_same f s rs = same_headers f 1 (later_segments s rs)

-- the keys before i, but for the first, have the header f
pub record Agree (f s rs : List ℕ) (i : ℕ) : Type 0 where
  pub same : all_same f s rs ≡ same_headers f i (segments_behind s rs i)

pub agree-start : (f s rs : List ℕ) → Agree f s rs 1
agree-start f s rs = record { same = refl }

module _ {f s rs : List ℕ} {i : ℕ} (a : Agree f s rs i) where
  pub agree-end : segment_count rs ≤ i → made tt ≡ all_same f s rs
  unfolding same_headers
  agree-end h = sym (a.same ∙ ap (same_headers f i) (segments-end s rs i h))

  module _ (h : i < segment_count rs) (u : List ℕ) (e : u ≡ key_at s rs i) where
    next-key : all_same f s rs ≡ and_also (in_segment i (compared f (obus u))) (λ _. same_headers f (suc i) (segments_behind s rs (i + 1)))
    unfolding same_headers
    next-key = a.same ∙ ap (same_headers f i) (segments-next s rs i h u (golden_at s rs i) e refl)

    pub agree-refused : (k : ℕ) (j : Option ℕ) → stopped k j ≡ in_segment i (compared f (obus u)) → stopped k j ≡ all_same f s rs
    unfolding and_also
    agree-refused k j g = sym (next-key ∙ rw (← g))

    pub agree-turn : made tt ≡ in_segment i (compared f (obus u)) → Agree f s rs (i + 1)
    unfolding and_also
    agree-turn g = record { same = next-key ∙ rw (← g) (ap (λ (n : ℕ). same_headers f n (segments_behind s rs (i + 1))) (sym (add-one i))) }

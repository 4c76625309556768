-- Laws of OBUs told one after the other.
use Prim.Native.Nat.{ℕ, suc}
use native.Mathlib.Omega.{arith}
use mathlib.Core.Path.{◌≡◌, refl, sym, ap, ◌∙◌}
use mathlib.Core.List.{List, [], ◌∷◌, ◌++◌}
use lib.ListN.{length}
use Rattle.bitio.specs.Parse.{Answer, refused, accepted, answer}
use Rattle.obu.specs.Obu.{Obu}
use Rattle.obu.specs.Unit.{is_type, is_kind, count}
use Rattle.obu.specs.declared.unit.Kind.TheVariants.{Any}
use Rattle.protocol.specs.Answers.{Line, parts_of, Numbered, numbered, with_numbers}
use Rattle.protocol.specs.Told.{Told, told, numbers_told}
use Rattle.replay_headers.specs.Headers.{tell_obu, tell_obus, list_told}

tell-next : (t : Told) (os : List Obu) (o : Obu) → tell_obus t (os ++ (o ∷ [])) ≡ tell_obu (tell_obus t os) o
unfolding tell_obus
tell-next t [] o = refl
tell-next t (a ∷ os) o = tell-next (tell_obu t a) os o

-- those in front are told, and then this one
pub tell-more : (t : Told) (os : List Obu) (o : Obu) {x : Obu} {u w : Told} → u ≡ tell_obus t os → x ≡ o → w ≡ tell_obu u x → w ≡ tell_obus t (os ++ (o ∷ []))
tell-more t os o {x} {u} e f g = g ∙ ap (tell_obu u) f ∙ ap (λ v. tell_obu v o) e ∙ sym (tell-next t os o)

-- ---- how many there are

count-any : (os : List Obu) → count (is_kind Any) os ≡ length os
unfolding count is_type
count-any [] = refl
count-any (o ∷ os) = ap suc (count-any os)

pub counted-all : (x : Answer (List Obu)) (n : ℕ) → accepted n ≡ answer (count (is_kind Any)) x → (os : List Obu) × (x ≡ accepted os) × (n ≡ length os)
counted-all (refused k) n e = let z : ◌≡◌ {A = ℕ} 0 1 = cc in absurd (omega arith)
counted-all (accepted os) n e = (os, refl, let i : n ≡ count (is_kind Any) os = cc in i ∙ count-any os)

-- how many, then each
module _ (m e n : List ℕ) where
  pub tell-obus : (x : Answer (List Obu)) (os : List Obu) (k : ℕ) {d a : Line} {n' : List ℕ} {u : Told} → x ≡ accepted os → k ≡ length os → d ≡ parts_of 0 0
      → numbered a n' ≡ with_numbers (numbered d n) (k ∷ []) → u ≡ tell_obus (told a m e n') os → u ≡ list_told x m e n
  tell-obus x os k {d} i j l f g =
      g
      ∙ ap (λ (y : Numbered). tell_obus (numbers_told m e y) os) f
      ∙ ap (λ y. tell_obus (numbers_told m e (with_numbers (numbered y n) (k ∷ []))) os) l
      ∙ ap (λ y. tell_obus (numbers_told m e (with_numbers (numbered (parts_of 0 0) n) (y ∷ []))) os) j
      ∙ ap (λ y. list_told y m e n) (sym i)

-- Laws of what the operations of the libraries are told as.
use Prim.Native.Nat.{ℕ}
use mathlib.Core.Path.{◌≡◌, sym, ap, ◌∙◌}
use mathlib.Core.List.{List, ◌++◌}
use Rattle.bitio.specs.Parse.{Answer, accepted}
use Rattle.protocol.specs.Answers.{Line, parts_of, Numbered, numbered, with_numbers}
use Rattle.protocol.specs.Told.{numbers_by}
use Rattle.protocol.proofs.AnswerLaws.{numbers_more}

-- ---- numbers told: x is what the library answers

module _ {A : Type 0} (f : A → List ℕ) (x : Answer A) (ns : List ℕ) where
  pub tells : {t : Numbered} (d : Line) (a : A) → t ≡ with_numbers (numbered d ns) (f a) → d ≡ parts_of 0 0 → x ≡ accepted a → t ≡ numbers_by f x ns
  tells d a e i j = e ∙ ap (λ y. with_numbers (numbered y ns) (f a)) i ∙ ap (λ y. numbers_by f y ns) (sym j)

-- Laws of what an answer tells in lent memory.
use Rattle.std.proofs.Common.{◌≡◌, refl, sym, ap, ◌∙◌, List, [], ◌∷◌, ◌++◌, ℕ, ◌+◌, ◌<◌, length, get_or, take}
use Rattle.std.proofs.lemmas.List.{take_more}
use Rattle.protocol.specs.Answers.{Numbered, numbers_told, with_number, with_numbers, Tells, Parted, with_part, with_parts}
use Rattle.protocol.specs.declared.answer.Numbers.{Numbers}

-- numbers told one list after the other are those of both lists
pub numbers_more : (t : Numbered) (vs ws : List ℕ) → with_numbers (with_numbers t vs) ws ≡ with_numbers t (vs ++ ws)
unfolding with_numbers
numbers_more t [] ws = refl
numbers_more t (v ∷ vs) ws = numbers_more (with_number t v) vs ws

-- one more of a list
pub number_next : (t : Numbered) (vs : List ℕ) (i : ℕ) → i < length vs
    → with_numbers t (take (i + 1) vs) ≡ with_numbers (with_numbers t (take i vs)) (get_or vs i 0 ∷ [])
number_next t vs i h = rw (take_more vs i 0 h) (sym (numbers_more t (take i vs) (get_or vs i 0 ∷ [])))

-- parts told one list after the other are those of both lists
pub parts_more : (t : Parted) (xss yss : List (List ℕ)) → with_parts (with_parts t xss) yss ≡ with_parts t (xss ++ yss)
unfolding with_parts
parts_more t [] yss = refl
parts_more t (xs ∷ xss) yss = parts_more (with_part t xs) xss yss

-- ---- numbers of the code

pub tells_none : (t : Numbers) → Tells t t []
unfolding with_numbers
tells_none t = record { told = refl; lent = refl }

-- these, and then those
pub tells_then : (t : Numbers) {u v : Numbers} (xs ys : List ℕ) → Tells t u xs → Tells u v ys → Tells t v (xs ++ ys)
tells_then t xs ys h k =
    record { told = k.told ∙ ap (λ y. with_numbers y ys) h.told ∙ numbers_more (numbers_told t) xs ys; lent = k.lent ∙ h.lent }

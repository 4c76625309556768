-- Laws of the kept header: one payload read in the code, a walk over a unit's OBUs, and what is kept behind it.
use Prim.Native.Nat.{ℕ}
use mathlib.Core.Path.{◌≡◌, refl, sym, ap, ◌∙◌}
use mathlib.Core.List.{List, [], ◌∷◌, ◌++◌}
use mathlib.Core.Bool.{Bool, true, false, cond as pick}
use mathlib.Core.Option.{some}
use Rattle.bitio.specs.Parse.{Answer, refused, accepted, answer, and_next}
use Rattle.obu.specs.Obu.{Obu, obus}
use Rattle.bitio.proofs.ParseLaws.{next-none}
use Rattle.obu.specs.Unit.{is_sequence}
use Rattle.header.specs.Sequence.{Sequence, in_array}
use Rattle.header.specs.declared.seq_header.SequenceObu.{SequenceObu}
use Rattle.header.specs.Support.{supported_sequence}
use Rattle.header.proofs.SupportLaws.{supported-read}
use Rattle.frame.proofs.FrameFromLaws.{read_whole}
use Rattle.player.specs.Player.{keep_as, keep}
use Rattle.player.specs.Values.{kept_of, kept_says, header_kept, kept_behind}
use Rattle.std.specs.Prelude.{Option as Optional, Some, None, Result, Ok, Err, MatchResult}
use Rattle.bitio.specs.Refusal.{says}
use Rattle.bitio.specs.declared.refusal.Refusal.{Refusal}

-- what is kept in the code
abbrev Kept : Type 0
Kept = Optional SequenceObu

-- one sequence payload of a unit in the code
pub header-kept : (s : List ℕ) (r : Result SequenceObu Refusal) (x : Result Kept Refusal) → says r ≡ answer in_array (supported_sequence s) → says x ≡ answer (λ y. Some y) (says r) → says x ≡ header_kept s
unfolding and_next
header-kept s r x e f = f ∙ ap (answer (λ y. Some y)) e ∙ go (supported_sequence s)
  where
    go : (x : Answer Sequence) → answer (λ y. Some y) (answer in_array x) ≡ and_next x (λ q. accepted (kept_of q))
    go (refused k) = refl
    go (accepted q) = refl

-- ---- one OBU more

module _ (o : Obu) (f : Kept → Answer Kept) (e : (k : Kept) → keep_as kept_of k (o ∷ []) ≡ f k) where
  keep-next : (front : List Obu) (k : Kept) → keep_as kept_of k (front ++ (o ∷ [])) ≡ and_next (keep_as kept_of k front) f
  unfolding keep_as and_next
  keep-next [] k = e k
  keep-next (x ∷ xs) k = go (is_sequence x) (supported_sequence x.payload) (keep-next xs)
    where
      go : (b : Bool) (a : Answer Sequence) → ((k : Kept) → keep_as kept_of k (xs ++ (o ∷ [])) ≡ and_next (keep_as kept_of k xs) f)
          → pick b (and_next a (λ q. keep_as kept_of (kept_of q) (xs ++ (o ∷ [])))) (keep_as kept_of k (xs ++ (o ∷ [])))
          ≡ and_next (pick b (and_next a (λ q. keep_as kept_of (kept_of q) xs)) (keep_as kept_of k xs)) f
      go false a ih = ih k
      go true (refused n) ih = refl
      go true (accepted q) ih = ih (kept_of q)

module _ (k : Kept) (front : List Obu) (o : Obu) where
  -- a sequence header
  pub turn-header : is_sequence o ≡ true → and_next (keep_as kept_of k front) (λ _. header_kept o.payload) ≡ keep_as kept_of k (front ++ (o ∷ []))
  unfolding keep_as
  turn-header t = sym (keep-next o (λ _. header_kept o.payload) one front k)
    where
      one : (k : Kept) → keep_as kept_of k (o ∷ []) ≡ header_kept o.payload
      one k = rw t

  -- any other OBU
  pub turn-other : is_sequence o ≡ false → keep_as kept_of k front ≡ keep_as kept_of k (front ++ (o ∷ []))
  unfolding keep_as
  turn-other t = sym (keep-next o (λ j. accepted j) one front k ∙ next-none (keep_as kept_of k front))
    where
      one : (k : Kept) → keep_as kept_of k (o ∷ []) ≡ accepted k
      one k = rw t

-- in the code: a header that is read where none was refused
pub read-more : (last x : Result Kept Refusal) (s : List ℕ) → MatchResult last (λ _. says x ≡ header_kept s) (λ e. x ≡ Err e) → says x ≡ and_next (says last) (λ _. header_kept s)
unfolding and_next
read-more (Ok k) x s h = h
read-more (Err e) x s h = ap says h

-- ---- what is kept says what the definition keeps

keep-says : (os : List Obu) (k : Kept) → answer kept_says (keep_as kept_of k os) ≡ keep (kept_says k) os
unfolding keep_as and_next
keep-says [] None = refl
keep-says [] (Some x) = refl
keep-says (o ∷ os) k = go (is_sequence o) (supported_sequence o.payload) refl (keep-says os)
  where
    go : (b : Bool) (a : Answer Sequence) → supported_sequence o.payload ≡ a → ((k : Kept) → answer kept_says (keep_as kept_of k os) ≡ keep (kept_says k) os)
        → answer kept_says (pick b (and_next a (λ q. keep_as kept_of (kept_of q) os)) (keep_as kept_of k os)) ≡ pick b (and_next a (λ q. keep (some q) os)) (keep (kept_says k) os)
    go false a i ih = ih k
    go true (refused n) i ih = refl
    go true (accepted q) i ih = ih (kept_of q) ∙ ap (λ z. keep z os) (ap (λ y. some y) (read_whole o.payload q (supported-read o.payload q i)))

-- what is kept behind a unit in the code
pub behind-says : (k : Kept) (u : List ℕ) → answer kept_says (kept_behind k u) ≡ and_next (obus u) (keep (kept_says k))
unfolding kept_behind and_next
behind-says k u = go (obus u)
  where
    go : (x : Answer (List Obu)) → answer kept_says (and_next x (keep_as kept_of k)) ≡ and_next x (keep (kept_says k))
    go (refused n) = refl
    go (accepted os) = keep-says os k

-- Laws of joined units: the delimiter that leads, and the other OBUs.
use mathlib.Core.Path.{◌≡◌, refl, sym, ap, ap₂, ◌∙◌}
use mathlib.Core.List.{List, [], ◌∷◌, ◌++◌, append_assoc}
use mathlib.Core.Bool.{Bool, true, false, cond as pick}
use Rattle.bitio.specs.Every.{Every}
use Rattle.bitio.proofs.ParseLaws.{pick-both}
use Rattle.bitio.specs.Every.Every.{nothing, also}
use Rattle.obu.specs.Obu.{Obu}
use Rattle.obu.specs.Unit.{is_delimiter}
use Rattle.container.specs.Stream.{lead, others, either, join}
use Rattle.bitio.proofs.EveryLaws.{every_append}

pub others-append : (a b : List Obu) → others (a ++ b) ≡ others a ++ others b
unfolding others
others-append [] b = refl
others-append (o ∷ a) b = rw (others-append a b) (go (is_delimiter o))
  where
    go : (x : Bool) → pick x (others a ++ others b) (o ∷ (others a ++ others b)) ≡ pick x (others a) (o ∷ others a) ++ others b
    go true = refl
    go false = refl

others-again : (a : List Obu) → others (others a) ≡ others a
unfolding others
others-again [] = refl
others-again (o ∷ a) = go (is_delimiter o) refl (others-again a)
  where
    go : (x : Bool) → is_delimiter o ≡ x → others (others a) ≡ others a → others (pick x (others a) (o ∷ others a)) ≡ pick x (others a) (o ∷ others a)
    go true e ih = ih
    go false e ih = rw (e, ih)

others-unled : (a : List Obu) → lead (others a) ≡ []
unfolding others
others-unled [] = refl
others-unled (o ∷ a) = go (is_delimiter o) refl (others-unled a)
  where
    go : (x : Bool) → is_delimiter o ≡ x → lead (others a) ≡ [] → lead (pick x (others a) (o ∷ others a)) ≡ []
    go true e ih = ih
    go false e ih = rw e

-- what leads does so again
lead-again : (a m : List Obu) → lead m ≡ [] → lead (lead a ++ m) ≡ lead a
lead-again [] m e = e
lead-again (o ∷ a) m e = go (is_delimiter o) refl
  where
    go : (x : Bool) → is_delimiter o ≡ x → lead (pick x (o ∷ []) [] ++ m) ≡ pick x (o ∷ []) []
    go true d = rw d
    go false d = e

either-again : (a b m : List Obu) → lead m ≡ [] → lead (either (lead a) (lead b) ++ m) ≡ either (lead a) (lead b)
either-again [] b m e = lead-again b m e
either-again (o ∷ a) b m e = go (is_delimiter o) refl
  where
    go : (x : Bool) → is_delimiter o ≡ x → lead (either (pick x (o ∷ []) []) (lead b) ++ m) ≡ either (pick x (o ∷ []) []) (lead b)
    go true d = rw d
    go false d = lead-again b m e

-- and is a delimiter
lead-dropped : (a m : List Obu) → others (lead a ++ m) ≡ others m
unfolding others
lead-dropped [] m = refl
lead-dropped (o ∷ a) m = go (is_delimiter o) refl
  where
    go : (x : Bool) → is_delimiter o ≡ x → others (pick x (o ∷ []) [] ++ m) ≡ others m
    go true d = rw d
    go false d = refl

either-dropped : (a b m : List Obu) → others (either (lead a) (lead b) ++ m) ≡ others m
unfolding others
either-dropped [] b m = lead-dropped b m
either-dropped (o ∷ a) b m = go (is_delimiter o) refl
  where
    go : (x : Bool) → is_delimiter o ≡ x → others (either (pick x (o ∷ []) []) (lead b) ++ m) ≡ others m
    go true d = rw d
    go false d = lead-dropped b m

pub join_is : (a b : List Obu) → join a b ≡ either (lead a) (lead b) ++ others (a ++ b)
unfolding join
join_is a b = rw others-append

-- joined to a third part
pub join-twice : (a b r : List Obu) → join (join a b) r ≡ either (either (lead a) (lead b)) (lead r) ++ others (a ++ (b ++ r))
join-twice a b r =
    join_is (join a b) r
    ∙ ap₂ (λ x y. either x (lead r) ++ y)
    (ap (λ l. lead l) (join_is a b) ∙ either-again a b (others (a ++ b)) (others-unled (a ++ b)))
    (others-append (join a b) r
    ∙ ap (λ l. l ++ others r) (ap others (join_is a b) ∙ either-dropped a b (others (a ++ b)) ∙ others-again (a ++ b))
    ∙ sym (others-append (a ++ b) r) ∙ ap others (append_assoc a b r))

-- ---- what holds of each OBU holds of those joined

module _ {P : Obu → Type 0} where
  others-every : {os : List Obu} → Every P os → Every P (others os)
  unfolding others
  others-every nothing = nothing
  others-every (also {a = o} p ps) = let q = others-every ps in pick-both (Every P) (is_delimiter o) q (also p q)

  lead-every : {os : List Obu} → Every P os → Every P (lead os)
  lead-every nothing = nothing
  lead-every (also {a = o} p ps) = pick-both (Every P) (is_delimiter o) (also p nothing) nothing

  either-every : {a b : List Obu} → Every P a → Every P b → Every P (either a b)
  either-every nothing q = q
  either-every (also p ps) q = also p ps

  pub join-every : {a b : List Obu} → Every P a → Every P b → Every P (join a b)
  unfolding join
  join-every p q = every_append (either-every (lead-every p) (lead-every q)) (every_append (others-every p) (others-every q))

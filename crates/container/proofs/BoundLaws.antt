-- Units have no more bytes than all OBUs, and no more than one for each frame, or one.
use Prim.Native.Nat.{ℕ, suc, ◌+◌, ◌≤◌, max}
use native.Mathlib.Omega.{arith}
use mathlib.Core.Path.{◌≡◌, refl, ap, ◌∙◌}
use mathlib.Core.List.{List, [], ◌∷◌, ◌++◌, flat_map}
use mathlib.Core.Bool.{Bool, true, false, cond as pick}
use lib.ListN.{length, length-append}
use Rattle.obu.specs.Obu.{Obu, unit_bytes}
use Rattle.obu.specs.Unit.{is_delimiter, is_frame, count}
use Rattle.container.specs.Stream.{has_frame, group, lead, others, either, join, behind, joined, units, flat}
use Rattle.container.proofs.StreamLaws.{bytes-append, flat-group, count-append, frame-some}

-- how many bytes OBUs have, written
abbrev pub weight : List Obu → ℕ
weight os = length (unit_bytes os)

weight-append : (a b : List Obu) → weight (a ++ b) ≡ weight a + weight b
weight-append a b = ap length (bytes-append a b) ∙ length-append (unit_bytes a) (unit_bytes b)

weight-nil : weight [] ≡ 0
unfolding unit_bytes flat_map
weight-nil = refl

weight-cons : (o : Obu) (os : List Obu) → weight (o ∷ os) ≡ weight (o ∷ []) + weight os
weight-cons o os = weight-append (o ∷ []) os

-- ---- bytes

others-most : (os : List Obu) → weight (others os) ≤ weight os
unfolding others
others-most [] = omega arith
others-most (o ∷ os) = go (is_delimiter o) (others-most os)
  where
    go : (b : Bool) → weight (others os) ≤ weight os → weight (pick b (others os) (o ∷ others os)) ≤ weight (o ∷ os)
    go true h = omega (arith, weight-cons o os)
    go false h = omega (arith, weight-cons o os, weight-cons o (others os))

-- a delimiter at the head is not among the others
parts-most : (os : List Obu) → weight (lead os) + weight (others os) ≤ weight os
unfolding others
parts-most [] = omega (arith, weight-nil)
parts-most (o ∷ os) = go (is_delimiter o)
  where
    go : (b : Bool) → weight (pick b (o ∷ []) []) + weight (pick b (others os) (o ∷ others os)) ≤ weight (o ∷ os)
    go true = omega (arith, weight-cons o os, others-most os)
    go false = omega (arith, weight-nil, weight-cons o os, weight-cons o (others os), others-most os)

either-most : (a b : List Obu) → weight (either a b) ≤ weight a + weight b
either-most [] b = omega arith
either-most (o ∷ os) b = omega arith

join-most : (a b : List Obu) → weight (join a b) ≤ weight a + weight b
unfolding join
join-most a b =
    omega (arith, weight-append (either (lead a) (lead b)) (others a ++ others b), weight-append (others a) (others b), either-most (lead a) (lead b), parts-most a, parts-most b)

behind-most : (u w : List Obu) (gs : List (List Obu)) → weight (flat (behind u w gs)) ≤ weight u + weight w + weight (flat gs)
unfolding behind flat
behind-most u w [] = omega (arith, weight-append (join u w) [], weight-nil, join-most u w)
behind-most u w (g ∷ gs) = go (has_frame g) (behind-most (join w g) [] gs) (behind-most u (w ++ g) gs)
  where
    go : (b : Bool)
        → weight (flat (behind (join w g) [] gs)) ≤ weight (join w g) + weight [] + weight (flat gs)
        → weight (flat (behind u (w ++ g) gs)) ≤ weight u + weight (w ++ g) + weight (flat gs)
        → weight (flat (pick b (u ∷ behind (join w g) [] gs) (behind u (w ++ g) gs))) ≤ weight u + weight w + weight (g ++ flat gs)
    go true h i =
        omega (arith, h, weight-append u (flat (behind (join w g) [] gs)), weight-append g (flat gs), weight-nil, join-most w g)
    go false h i = omega (arith, i, weight-append w g, weight-append g (flat gs))

joined-most : (w : List Obu) (gs : List (List Obu)) → weight (flat (joined w gs)) ≤ weight w + weight (flat gs)
unfolding joined flat
joined-most [] [] = omega arith
joined-most (o ∷ w) [] = omega (arith, weight-append (o ∷ w) [], weight-nil)
joined-most w (g ∷ gs) = go (has_frame g) (behind-most (join w g) [] gs) (joined-most (w ++ g) gs)
  where
    go : (b : Bool)
        → weight (flat (behind (join w g) [] gs)) ≤ weight (join w g) + weight [] + weight (flat gs)
        → weight (flat (joined (w ++ g) gs)) ≤ weight (w ++ g) + weight (flat gs)
        → weight (flat (pick b (behind (join w g) [] gs) (joined (w ++ g) gs))) ≤ weight w + weight (g ++ flat gs)
    go true h i = omega (arith, h, weight-append g (flat gs), weight-nil, join-most w g)
    go false h i = omega (arith, i, weight-append w g, weight-append g (flat gs))

pub units-bytes-most : (os : List Obu) → weight (flat (units os)) ≤ weight os
unfolding units
units-bytes-most os = omega (arith, joined-most [] (group os), weight-nil, ap weight (flat-group os))

-- ---- units

frames-of : (g : List Obu) (gs : List (List Obu)) → count is_frame (flat (g ∷ gs)) ≡ count is_frame g + count is_frame (flat gs)
unfolding flat
frames-of g gs = count-append is_frame g (flat gs)

behind-few : (u w : List Obu) (gs : List (List Obu)) → length (behind u w gs) ≤ suc (count is_frame (flat gs))
unfolding behind
behind-few u w [] = omega arith
behind-few u w (g ∷ gs) = go (has_frame g) refl (behind-few (join w g) [] gs) (behind-few u (w ++ g) gs)
  where
    n : ℕ
    n = count is_frame (flat gs)

    go : (b : Bool) → has_frame g ≡ b → length (behind (join w g) [] gs) ≤ suc n → length (behind u (w ++ g) gs) ≤ suc n
        → length (pick b (u ∷ behind (join w g) [] gs) (behind u (w ++ g) gs)) ≤ suc (count is_frame (flat (g ∷ gs)))
    go true e h i = omega (arith, h, frames-of g gs, frame-some g e)
    go false e h i = omega (arith, i, frames-of g gs)

joined-few : (w : List Obu) (gs : List (List Obu)) → length (joined w gs) ≤ max (count is_frame (flat gs)) 1
unfolding joined flat count
joined-few [] [] = omega arith
joined-few (o ∷ w) [] = omega arith
joined-few w (g ∷ gs) = go (has_frame g) refl (behind-few (join w g) [] gs) (joined-few (w ++ g) gs)
  where
    n : ℕ
    n = count is_frame (flat gs)

    go : (b : Bool) → has_frame g ≡ b → length (behind (join w g) [] gs) ≤ suc n → length (joined (w ++ g) gs) ≤ max n 1
        → length (pick b (behind (join w g) [] gs) (joined (w ++ g) gs)) ≤ max (count is_frame (g ++ flat gs)) 1
    go true e h i =
        let f = count-append is_frame g (flat gs) in
        let k = frame-some g e in
        omega (arith, h)
    go false e h i =
        let f = count-append is_frame g (flat gs) in
        omega (arith, i)

pub units-few : (os : List Obu) → length (units os) ≤ max (count is_frame os) 1
unfolding units
units-few os = rw (ap (count is_frame) (flat-group os)) at (joined-few [] (group os))

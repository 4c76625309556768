-- Laws of units: taken from the front, and given back as they were written.
use Prim.Native.Nat.{ℕ, suc, ◌+◌, ◌≤◌, ◌<◌}
use native.Mathlib.Omega.{arith}
use mathlib.Core.Path.{◌≡◌, refl, sym, ap, ◌∙◌}
use mathlib.Core.List.{List, [], ◌∷◌, ◌++◌, map, flat_map, tail, append_assoc, append-nil}
use mathlib.Core.Bool.{Bool, true, false, cond as pick, ◌||◌, ◌&&◌}
use lib.ListN.{length}
use borrow.Author.Tests.{eqb-true, le-leb, lt-leb, leb-true, leb-false}
use Rattle.bitio.specs.Parse.{accepted}
use Rattle.bitio.specs.Every.{Every}
use Rattle.bitio.specs.Every.Every.{nothing, also}
use Rattle.bitio.proofs.EveryLaws.{every_append}
use Rattle.obu.specs.Obu.{Obu, unit_bytes}
use Rattle.obu.proofs.ObuLaws.{Allowed, obus-unit}
use Rattle.obu.proofs.UnitLaws.{has-count}
use Rattle.obu.specs.Unit.{is_delimiter, is_frame, is_type, count}
use Rattle.container.specs.Stream.{has_frame, opens, seen_after, Cut, put, cut, group, lead, others, either, join, behind, joined, units, stream_units, flat, stream_bytes}
use Rattle.container.specs.code.Extents.{reopens}

-- one more where b
abbrev pub tick : Bool → ℕ → ℕ
tick b n = pick b (suc n) n

-- ---- units with one frame

-- no delimiter but at the head, and one frame
pub record Single (u : List Obu) : Type 0 where
  pub trimmed : count is_delimiter (tail u) ≡ 0
  pub single : count is_frame u ≡ 1

abbrev pub leads : List Obu → Bool
leads [] = false
leads (o ∷ os) = is_delimiter o

-- the first OBU opens a unit behind a frame
abbrev pub opened : List Obu → Bool
opened [] = false
opened (o ∷ os) = opens true o

-- ---- grouping

pub delimiter-frame : (o : Obu) → is_delimiter o ≡ true → is_frame o ≡ false
unfolding is_type
delimiter-frame o e = let t : o.type ≡ 2 = eqb-true _ _ e in rw t

-- the first OBU of a unit: whether a frame is seen
pub first-seen : (seen : Bool) (o : Obu) → (seen ≡ true → opens true o ≡ true) → seen_after seen o ≡ is_frame o
first-seen seen o k = go (is_delimiter o) (is_frame o) seen refl refl k
  where
    go : (d f b : Bool) → is_delimiter o ≡ d → is_frame o ≡ f → (b ≡ true → (d || f) ≡ true) → pick d false (f || b) ≡ f
    go true true b p q k = sym (delimiter-frame o p) ∙ q
    go true false b p q k = refl
    go false true b p q k = refl
    go false false true p q k = sym (k refl)
    go false false false p q k = refl

-- what follows the first OBU of a unit stays in it
pub cut-body : (rest : List Obu) (us : List (List Obu)) → cut true rest ≡ record { here = []; next = us }
    → (seen : Bool) (os : List Obu) → count is_delimiter os ≡ 0 → tick seen (count is_frame os) ≡ 1 → cut seen (os ++ rest) ≡ record { here = os; next = us }
unfolding cut count
cut-body rest us e true [] d f = e
cut-body rest us e false [] d f = absurd (omega arith)
cut-body rest us e seen (o ∷ os) d f = go (is_delimiter o) (is_frame o) seen d f (λ b. cut-body rest us e b os)
  where
    go : (x y b : Bool) → tick x (count is_delimiter os) ≡ 0 → tick b (tick y (count is_frame os)) ≡ 1
        → ((c : Bool) → count is_delimiter os ≡ 0 → tick c (count is_frame os) ≡ 1 → cut c (os ++ rest) ≡ record { here = os; next = us })
        → put o (x || (b && y)) (cut (pick x false (y || b)) (os ++ rest)) ≡ record { here = o ∷ os; next = us }
    go true y b d f ih = absurd (omega arith)
    go false true true d f ih = absurd (omega arith)
    go false true false d f ih = rw (ih true d f)
    go false false true d f ih = rw (ih true d f)
    go false false false d f ih = rw (ih false d f)

pub not-empty : Single [] → ⊥
unfolding count
not-empty s = omega (arith, s.single)

-- an OBU that opens a unit cuts
cut-opens : (seen : Bool) (o : Obu) (os : List Obu) → opens seen o ≡ true → cut seen (o ∷ os) ≡ record { here = []; next = group (o ∷ os) }
unfolding cut group
cut-opens false o os e = rw e
cut-opens true o os e =
    let k : seen_after true o ≡ is_frame o = first-seen true o (λ _. e) in
    let m : seen_after false o ≡ is_frame o = first-seen false o (λ z. e) in
    rw e (ap (λ (b : Bool). record { here = []; next = (put o true (cut b os)).next }) (k ∙ sym m))

cut-reopens : (r : List Obu) → reopens r ≡ true → cut true r ≡ record { here = []; next = group r }
unfolding cut group
cut-reopens [] e = refl
cut-reopens (o ∷ os) e = cut-opens true o os e

-- a unit with one frame, then what opens behind a frame
pub group-single : (g r : List Obu) → Single g → reopens r ≡ true → group (g ++ r) ≡ g ∷ group r
unfolding group count
group-single [] r s e = absurd (not-empty s)
group-single (o ∷ os) r s e =
    let k = first-seen false o (λ z. let y : ◌≡◌ {A = ℕ} 0 1 = cc in absurd (omega arith)) in
    rw (cut-body r (group r) (cut-reopens r e) (seen_after false o) os s.trimmed (rw k s.single))

-- what stands before a delimiter is grouped apart
cut-before : (seen : Bool) (w : List Obu) (o : Obu) (os : List Obu) → is_delimiter o ≡ true
    → cut seen (w ++ (o ∷ os)) ≡ record { here = (cut seen w).here; next = (cut seen w).next ++ group (o ∷ os) }
unfolding cut
cut-before seen [] o os e = cut-opens seen o os (rw e)
cut-before seen (x ∷ w) o os e = go (opens seen x) (cut-before (seen_after seen x) w o os e)
  where
    go : (b : Bool) → cut (seen_after seen x) (w ++ (o ∷ os)) ≡ record { here = (cut (seen_after seen x) w).here; next = (cut (seen_after seen x) w).next ++ group (o ∷ os) }
        → put x b (cut (seen_after seen x) (w ++ (o ∷ os))) ≡ record { here = (put x b (cut (seen_after seen x) w)).here; next = (put x b (cut (seen_after seen x) w)).next ++ group (o ∷ os) }
    go true ih = rw ih
    go false ih = rw ih

pub group-before : (w : List Obu) (o : Obu) (os : List Obu) → is_delimiter o ≡ true → group (w ++ (o ∷ os)) ≡ group w ++ group (o ∷ os)
unfolding group
group-before [] o os e = refl
group-before (x ∷ w) o os e = rw (cut-before (seen_after false x) w o os e)

cut-flat : (seen : Bool) (os : List Obu) → (cut seen os).here ++ flat (cut seen os).next ≡ os
unfolding cut flat
cut-flat seen [] = refl
cut-flat seen (o ∷ os) = go (opens seen o) (cut (seen_after seen o) os) (cut-flat (seen_after seen o) os)
  where
    go : (b : Bool) (c : Cut) → c.here ++ flat c.next ≡ os → (put o b c).here ++ flat (put o b c).next ≡ o ∷ os
    go true c e = rw e
    go false c e = rw e

pub flat-group : (os : List Obu) → flat (group os) ≡ os
unfolding group flat
flat-group [] = refl
flat-group (o ∷ os) = rw (cut-flat (seen_after false o) os)

pub count-append : (p : Obu → Bool) (a b : List Obu) → count p (a ++ b) ≡ count p a + count p b
unfolding count
count-append p [] b = omega arith
count-append p (o ∷ a) b = go (p o) (count-append p a b)
  where
    go : (x : Bool) → count p (a ++ b) ≡ count p a + count p b → tick x (count p (a ++ b)) ≡ tick x (count p a) + count p b
    go true e = omega arith
    go false e = e

-- ---- joining

pub others-all : (os : List Obu) → count is_delimiter os ≡ 0 → others os ≡ os
unfolding others count
others-all [] d = refl
others-all (o ∷ os) d = go (is_delimiter o) d (others-all os)
  where
    go : (x : Bool) → tick x (count is_delimiter os) ≡ 0 → (count is_delimiter os ≡ 0 → others os ≡ os) → pick x (others os) (o ∷ others os) ≡ o ∷ os
    go true d ih = absurd (omega arith)
    go false d ih = rw (ih d)

-- the lead and the others make up a unit whose delimiters all stand at its head
lead-others : (u : List Obu) → count is_delimiter (tail u) ≡ 0 → lead u ++ others u ≡ u
unfolding others
lead-others [] d = refl
lead-others (o ∷ os) d = go (is_delimiter o)
  where
    go : (x : Bool) → pick x (o ∷ []) [] ++ pick x (others os) (o ∷ others os) ≡ o ∷ os
    go true = rw (others-all os d)
    go false = rw (others-all os d)

pub either-nil : (a : List Obu) → either a [] ≡ a
either-nil [] = refl
either-nil (o ∷ os) = refl

-- such a unit is not changed by joining nothing
pub join-left : (u : List Obu) → count is_delimiter (tail u) ≡ 0 → join [] u ≡ u
unfolding join others
join-left u d = lead-others u d

pub join-right : (u : List Obu) → count is_delimiter (tail u) ≡ 0 → join u [] ≡ u
unfolding join others
join-right u d = simp (either-nil, append-nil) (lead-others u d)

-- ---- joining, from the front

none-there : (g : List Obu) → count is_frame g ≡ 0 → has_frame g ≡ false
none-there g e = sym (has-count is_frame g) ∙ lt-leb 1 (count is_frame g) (omega arith)

some-there : (g : List Obu) → 1 ≤ count is_frame g → has_frame g ≡ true
some-there g l = sym (has-count is_frame g) ∙ le-leb 1 (count is_frame g) l

-- and back
pub frame-none : (g : List Obu) → has_frame g ≡ false → count is_frame g ≡ 0
frame-none g e = omega (arith, leb-false 1 (count is_frame g) (has-count is_frame g ∙ e))

pub frame-some : (g : List Obu) → has_frame g ≡ true → 1 ≤ count is_frame g
frame-some g e = leb-true 1 (count is_frame g) (has-count is_frame g ∙ e)

-- frameless groups wait
joined-waits : (v : List Obu) (gs hs : List (List Obu)) → count is_frame (flat gs) ≡ 0 → joined v (gs ++ hs) ≡ joined (v ++ flat gs) hs
unfolding joined flat
joined-waits v [] hs f = simp append-nil
joined-waits v (g ∷ gs) hs f =
    let n = count-append is_frame g (flat gs) in
    rw (none-there g (omega arith)) (joined-waits (v ++ g) gs hs (omega arith) ∙ rw append_assoc)

joined-frame : (v h : List Obu) (gs : List (List Obu)) → Single h → joined v (h ∷ gs) ≡ behind (join v h) [] gs
unfolding joined
joined-frame v h gs s = rw (some-there h (omega (arith, s.single)))

-- behind a unit with a frame: it goes out if another frame follows, else all that follows joins it
behind_more : (u v : List Obu) (gs : List (List Obu)) → 1 ≤ count is_frame (flat gs) → behind u v gs ≡ u ∷ joined v gs
unfolding behind joined flat count
behind_more u v [] f = absurd (omega arith)
behind_more u v (g ∷ gs) f = go (has_frame g) refl (behind_more u (v ++ g) gs)
  where
    go : (b : Bool) → has_frame g ≡ b → (1 ≤ count is_frame (flat gs) → behind u (v ++ g) gs ≡ u ∷ joined (v ++ g) gs)
        → pick b (u ∷ behind (join v g) [] gs) (behind u (v ++ g) gs) ≡ u ∷ pick b (behind (join v g) [] gs) (joined (v ++ g) gs)
    go true e ih = refl
    go false e ih = ih (omega (arith, frame-none g e, count-append is_frame g (flat gs)))

behind-last : (u v : List Obu) (gs : List (List Obu)) → count is_frame (flat gs) ≡ 0 → behind u v gs ≡ join u (v ++ flat gs) ∷ []
unfolding behind flat
behind-last u v [] f = simp append-nil
behind-last u v (g ∷ gs) f =
    let n = count-append is_frame g (flat gs) in
    rw (none-there g (omega arith)) (behind-last u (v ++ g) gs (omega arith) ∙ rw append_assoc)

-- ---- the units, from the front

-- OBUs up to the end of the first unit that has a frame: w waits, g has the frame and, if anything waits, begins with a delimiter
pub record Front (w g : List Obu) : Type 0 where
  pub waits : count is_frame w ≡ 0
  pub single : Single g
  pub apart : 0 < length w → leads g ≡ true

module _ (w g r : List Obu) (f : Front w g) (e : reopens r ≡ true) where
  units-front : units (w ++ (g ++ r)) ≡ behind (join w g) [] (group r)
  unfolding units
  units-front = go w g f
    where
      go : (v h : List Obu) → Front v h → joined [] (group (v ++ (h ++ r))) ≡ behind (join v h) [] (group r)
      go [] h k = rw (group-single h r k.single e) (joined-frame [] h (group r) k.single)
      go (x ∷ v) [] k = absurd (not-empty k.single)
      go (x ∷ v) (o ∷ os) k =
          rw (group-before (x ∷ v) o (os ++ r) (k.apart (omega arith)), group-single (o ∷ os) r k.single e, joined-waits [] (group (x ∷ v)) ((o ∷ os) ∷ group r) (rw flat-group k.waits), flat-group)
          (joined-frame (x ∷ v) (o ∷ os) (group r) k.single)

  -- the unit goes out if another frame follows
  pub units-more : 1 ≤ count is_frame r → units (w ++ (g ++ r)) ≡ join w g ∷ units r
  unfolding units
  units-more n = units-front ∙ behind_more (join w g) [] (group r) (rw flat-group n)

  -- else all that follows joins it
  pub units-last : count is_frame r ≡ 0 → units (w ++ (g ++ r)) ≡ join (join w g) r ∷ []
  units-last n = units-front ∙ behind-last (join w g) [] (group r) (rw flat-group n) ∙ rw flat-group

abbrev pub alone : List Obu → List (List Obu)
alone [] = []
alone (o ∷ os) = (o ∷ os) ∷ []

joined-alone : (w : List Obu) → joined w [] ≡ alone w
unfolding joined
joined-alone [] = refl
joined-alone (o ∷ w) = refl

-- without a frame all go out as one
pub units-alone : (os : List Obu) → count is_frame os ≡ 0 → units os ≡ alone os
unfolding units
units-alone os n =
    ap (joined []) (sym (append-nil (group os))) ∙ joined-waits [] (group os) [] (rw flat-group n) ∙ joined-alone (flat (group os)) ∙ rw flat-group

-- ---- runs of units

abbrev pub ready : List (List Obu) → Bool
ready [] = true
ready (u ∷ us) = opened u

-- units one behind the other, each but the first opened by its first OBU
pub data Run : List (List Obu) → Type 0 where
  done : Run []
  next : {u : List Obu} {us : List (List Obu)} → Single u → ready us ≡ true → Run us → Run (u ∷ us)

run-reopens : {us : List (List Obu)} → Run us → ready us ≡ true → reopens (flat us) ≡ true
unfolding flat
run-reopens done e = refl
run-reopens (next {u = []} s r t) e = absurd (not-empty s)
run-reopens (next {u = o ∷ os} s r t) e = e

front : (u : List Obu) → Single u → Front [] u
unfolding count
front u s = record { waits = refl; single = s; apart = λ l. absurd (omega arith) }

-- the units of a run, one behind the other, are these
pub units-run : {us : List (List Obu)} → Run us → units (flat us) ≡ us
unfolding flat count
units-run done = units-alone [] refl
units-run (next {u} {us = []} s r t) =
    units-last [] u [] (front u s) refl refl ∙ rw (join-left u s.trimmed, join-right u s.trimmed)
units-run (next {u} {us = v ∷ us} s r (next k q t)) =
    let n = count-append is_frame v (flat us) in
    let m = k.single in
    units-more [] u (v ++ flat us) (front u s) (run-reopens (next k q t) r) (omega arith)
    ∙ rw (join-left u s.trimmed) (ap (λ (l : List (List Obu)). u ∷ l) (units-run (next k q t)))

-- ---- the stream

pub flat_append : {A : Type 0} (a b : List (List A)) → flat (a ++ b) ≡ flat a ++ flat b
unfolding flat
flat_append [] b = refl
flat_append (u ∷ a) b = rw (flat_append a b, append_assoc)

pub bytes-append : (os ps : List Obu) → unit_bytes (os ++ ps) ≡ unit_bytes os ++ unit_bytes ps
unfolding unit_bytes flat_map
bytes-append [] ps = refl
bytes-append (o ∷ os) ps = rw (bytes-append os ps, append_assoc)

pub bytes-flat : (us : List (List Obu)) → stream_bytes (map unit_bytes us) ≡ unit_bytes (flat us)
unfolding stream_bytes flat unit_bytes flat_map
bytes-flat [] = refl
bytes-flat (u ∷ us) = rw (bytes-append u (flat us), ← bytes-flat us)

pub every-flat : {P : Obu → Type 0} {us : List (List Obu)} → Every (Every P) us → Every P (flat us)
unfolding flat
every-flat nothing = nothing
every-flat (also p ps) = every_append p (every-flat ps)

-- a run of units is written and read back as it is
pub stream-run : {us : List (List Obu)} → Every (Every Allowed) us → Run us → stream_units (stream_bytes (map unit_bytes us)) ≡ accepted (map unit_bytes us)
unfolding stream_units
stream-run {us} a r = rw (bytes-flat us, obus-unit (every-flat a), units-run r)

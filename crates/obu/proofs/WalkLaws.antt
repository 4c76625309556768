-- Laws of the walk over all OBUs of a unit: what a turn gives, and how the walk ends.
use Prim.Native.Nat.{ℕ, ◌<◌}
use native.Mathlib.Omega.{arith}
use mathlib.Core.Path.{◌≡◌, refl, sym, ap, subst, ◌∙◌}
use mathlib.Core.List.{List, [], ◌∷◌, ◌++◌}
use mathlib.Core.Bool.{Bool, true, false, cond as pick}
use lib.ListN.{length}
use lib.Dec.{ltb}
use borrow.Author.Tests.{ltb-true, ltb-false}
use Rattle.std.specs.Prelude.{Option, Some, None, Result, Ok, Err, ⊤}
use Rattle.std.specs.Iterator.{MakesProgress}
use Rattle.bitio.specs.Parse.{accepted, refused}
use Rattle.bitio.specs.Refusal.{number}
use Rattle.obu.specs.Obu.{Obu, obus}
use Rattle.bitio.specs.declared.refusal.Refusal.{Refusal}
use Rattle.obu.specs.Place.{Place, obu_place, extension_says, no_more, wrong, lies}
use Rattle.obu.specs.Walk.{next_place, given, GivesObu, Walks, bytes_left}
use Rattle.obu.specs.declared.reader.Obu.{Obu as Found}
use Rattle.obu.specs.declared.obus.Obus.{Obus}
use Rattle.bitio.proofs.ParseLaws.{pick-cases}
use Rattle.obu.proofs.PlaceLaws.{is-placed, IsPlaced, at-end, Walked, walk_start, walk-next, walk_end, walk-stop}

-- the walk goes over all of s
pub record Over (s : List ℕ) (it : Obus) : Type 0 where
  pub bytes : it.bytes.now ≡ s
  pub end : it.end ≡ length s

pub over-start : {s : List ℕ} {it : Obus} {at : ℕ} → Walks it s at (length s) → Over s it
over-start w = record { bytes = w.0; end = w.2 }

-- what is given next stands at its position
pub next-here : {s : List ℕ} {it : Obus} → Over s it → next_place it ≡ obu_place s it.at
next-here {s} {it} w =
    pick-cases (λ (p : Place). p ≡ obu_place s it.at) (ltb it.at it.end) (λ t. ap (λ (l : List ℕ). obu_place l it.at) w.bytes)
    (λ f. at-end s it.at (omega (arith, ltb-false it.at it.end f, w.end)))

module _ {s : List ℕ} {it : Obus} (w : Over s it) (r : Option (Result Found Refusal)) (new : Obus) (g : GivesObu it r new) where
  pub over-next : Over s new
  over-next = record { bytes = g.1.0 ∙ w.bytes; end = g.1.2 ∙ w.end }

  pub given-here : obu_place s it.at ≡ given r
  given-here = sym (g.0 ∙ next-here w)

-- an OBU that is given lies there
pub turn : {s : List ℕ} {it : Obus} (o : Found) (new : Obus) → Over s it → GivesObu it (Some (Ok o)) new → IsPlaced s it.at o.obu_type (extension_says o.extension) o.start o.end
turn o new w g = is-placed _ _ (given-here w (Some (Ok o)) new g)

-- ---- the OBUs passed so far, from the first on

pub record Passed (s : List ℕ) (it : Obus) (front : List Obu) : Type 0 where
  pub over : Over s it
  pub walked : Walked s it.at front

pub passed_none : {s : List ℕ} {it : Obus} → Walks it s 0 (length s) → Passed s it []
passed_none {s} w = record { over = over-start w; walked = rw w.1 (walk_start s) }

module _ {s : List ℕ} {it : Obus} {front : List Obu} (p : Passed s it front) where
  -- one more, and the walk is behind it
  pub passed_one : (o : Found) (new : Obus) → GivesObu it (Some (Ok o)) new
      → (g : IsPlaced s it.at o.obu_type (extension_says o.extension) o.start o.end) × (new.at ≡ o.end) × Passed s new (front ++ (g.obu ∷ []))
  passed_one o new g =
      let t = turn o new p.over g in
      (t, g.1.1, record { over = over-next p.over (Some (Ok o)) new g; walked = subst (λ (n : ℕ). Walked s n (front ++ (t.obu ∷ []))) (sym g.1.1) (walk-next p.walked t.placed) })

  -- all of them
  pub passed_all : (new : Obus) → GivesObu it None new → obus s ≡ accepted front
  passed_all new g = walk_end p.walked (given-here p.over None new g)

  -- a refusal is the whole's
  pub passed_stop : (e : Refusal) (new : Obus) → GivesObu it (Some (Err e)) new → obus s ≡ refused (number e)
  passed_stop e new g = walk-stop p.walked (number e) (given-here p.over (Some (Err e)) new g)

-- ---- each turn has less to go

-- an OBU that is given lies within the walk
within-walk : (it : Obus) (t : ℕ) (e : _) (a b : ℕ) → lies t e a b ≡ next_place it → (it.at < it.end) × (obu_place it.bytes.now it.at ≡ lies t e a b)
within-walk it t e a b q = go (ltb it.at it.end) refl q
  where
    go : (x : Bool) → ltb it.at it.end ≡ x → lies t e a b ≡ pick x (obu_place it.bytes.now it.at) no_more → (it.at < it.end) × (obu_place it.bytes.now it.at ≡ lies t e a b)
    go true l q = (ltb-true it.at it.end l, sym q)
    go false l q = cc

wrong-walk : (it : Obus) (k : ℕ) → wrong k ≡ next_place it → it.at < it.end
wrong-walk it k q = go (ltb it.at it.end) refl q
  where
    go : (x : Bool) → ltb it.at it.end ≡ x → wrong k ≡ pick x (obu_place it.bytes.now it.at) no_more → it.at < it.end
    go true l q = ltb-true it.at it.end l
    go false l q = cc

pub goes-on : (it : Obus) (r : Option (Result Found Refusal)) (new : Obus) → GivesObu it r new → MakesProgress (λ _. ⊤) bytes_left it r new
goes-on it None new g = record { on = λ _. tt; keeps = tt; rests = λ _. tt }
goes-on it (Some (Ok o)) new g =
    let q = within-walk it _ _ _ _ g.0 in
    let p = (is-placed _ _ q.1).placed in
    record { on = λ _. (tt, tt, omega (arith, q.0, p.after, p.ends, g.1.1, g.1.2)); keeps = tt; rests = λ _. tt }
goes-on it (Some (Err e)) new g = record { on = λ _. (tt, tt, omega (arith, wrong-walk it _ g.0, g.1.1, g.1.2)); keeps = tt; rests = λ _. tt }

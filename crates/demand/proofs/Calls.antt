-- Calls of the running player, as its contract gives them, are a course, and answer what demand 3 claims; so do the answers that the running code hands out.
use Prim.Native.Nat.{ℕ, zero, suc, ◌+◌, ◌-◌, ◌≤◌, ◌<◌}
use native.Mathlib.Omega.{arith}
use mathlib.Core.Path.{◌≡◌, refl, sym, ap, subst, ◌∙◌}
use mathlib.Core.List.{List, [], ◌∷◌, Memᴰ}
use mathlib.Core.Option.{Option, none, some}
use lib.ListN.{length, get_or, drop, length-drop}
use lib.Seq.{get_or-drop}
use Rattle.std.specs.Prelude.{Option as Optional, Some, None, Result, Ok, Err}
use Rattle.bitio.specs.Parse.{Answer, refused, accepted, answer}
use Rattle.bitio.specs.Refusal.{number}
use Rattle.bitio.specs.declared.refusal.Refusal.{Refusal}
use Rattle.header.specs.Sequence.{Sequence}
use Rattle.blocks.specs.Blocks.{Entry}
use Rattle.pictures.specs.Segments.{Segment}
use Rattle.pictures.specs.declared.settings.Settings.{Settings}
use Rattle.player.specs.Player.{State, start, Played, play, state_after}
use Rattle.player.specs.Values.{shown_says, state_says, start_state, state_left}
use Rattle.player.specs.declared.play.State.{State as CodeState}
use Rattle.player.proofs.StepLaws.{leaves-so}
use Rattle.demand.specs.Kinds.{unit_at}
use Rattle.demand.specs.Courses.{Course, done, plays, noise, Throughout}
use Rattle.demand.specs.Demand.{Given, PlaysRight, ReadBack, Demand}
use Rattle.playback.specs.Shown.{shown_of, shown_from, shown_by}
use Rattle.playback.proofs.ShownLaws.{shown-length}

-- the player's answer: the position shown, if any, or a refusal
abbrev pub Reply : Type 0
Reply = Result (Optional ℕ) Refusal

-- one call, by the player's contract: in the state st, the unit u under position p is answered r, and the state left is st'
pub record Call (st : CodeState) (p : ℕ) (u : List ℕ) (r : Reply) (st' : CodeState) : Type 0 where
  pub answer : shown_says r ≡ answer (λ (x : Played). x.shown) (play (state_says st) p u)
  pub state : st' ≡ state_left st p u

-- From the state st, the player is called with the units us in order, as Course has them played, and with others, refused, between.
-- Each call is handed the state that the one before it left.
pub data Calls : CodeState → ℕ → List (List ℕ) → Type 0 where
  over : {st : CodeState} {p : ℕ} → Calls st p []
  call : {st : CodeState} {p : ℕ} {u : List ℕ} {us : List (List ℕ)} (r : Reply) (st' : CodeState) → Call st p u r st' → Calls st' (suc p) us → Calls st p (u ∷ us)
  other : {st : CodeState} {p : ℕ} {us : List (List ℕ)} (q : ℕ) (v : List ℕ) (e : Refusal) (st' : CodeState) → Call st q v (Err e) st' → Calls st' p us → Calls st p us

-- P holds of the call with each unit of the list: of its position, the state that it is handed, the unit, and the answer
unfoldable pub EachCall : (ℕ → CodeState → List ℕ → Reply → Type 0) → {st : CodeState} {p : ℕ} {us : List (List ℕ)} → Calls st p us → Type 0
EachCall P over = Unit
EachCall P (call {st} {p} {u} r st' w k) = (P p st u r) × (EachCall P k)
EachCall P (other q v e st' w k) = EachCall P k

-- ---- calls are a course

-- an answer that is an error was a refusal
refused-so : (x : Answer Played) (n : ℕ) → refused n ≡ answer (λ (x : Played). x.shown) x → x ≡ refused n
refused-so (refused k) n e = let i : k ≡ n = cc in ap (λ j. refused j) i
refused-so (accepted r) n e = cc

-- what a call leaves, from a state s that st says
left_so : (s : State) (st : CodeState) → s ≡ state_says st → (p : ℕ) (u : List ℕ) (st' : CodeState) → st' ≡ state_left st p u → state_after s p u ≡ state_says st'
left_so s st i p u st' w = ap (λ (t : State). state_after t p u) i ∙ sym (leaves-so st p u) ∙ ap (λ (t : CodeState). state_says t) (sym w)

pub course-of : (s : State) {st : CodeState} {p : ℕ} {us : List (List ℕ)} → s ≡ state_says st → Calls st p us → Course s p us
course-of s i over = done
course-of s i (call {st} {p} {u} r st' w k) = plays (course-of (state_after s p u) (left_so s st i p u st' w.state) k)
course-of s i (other {st} q v e st' w k) =
    noise {st = s} q v (number e) (ap (λ (t : State). play t q v) i ∙ refused-so _ (number e) w.answer) (course-of (state_after s q v) (left_so s st i q v st' w.state) k)

-- ---- what the calls answer

-- the call with the unit u under position p, handed the state st, plays right, and answers, by r, the position that demand 3 names, never a refusal
pub record AnswersRight (set : Settings) (q : Sequence) (xs : List Segment) (us : List (List ℕ)) (cue p : ℕ) (st : CodeState) (u : List ℕ) (r : Reply) : Type 0 where
  pub right : PlaysRight set q xs us cue p (state_says st)
  pub answer : r ≡ Ok (Some right.shown)

shows-one : (r : Reply) (o : ℕ) → shown_says r ≡ accepted (some o) → r ≡ Ok (Some o)
shows-one (Ok (Some p)) o e = cc
shows-one (Ok None) o e = cc
shows-one (Err n) o e = cc

module _ (set : Settings) (q : Sequence) (xs : List Segment) (us : List (List ℕ)) (cue : ℕ) where
  answers-right : {p : ℕ} (st : CodeState) (u : List ℕ) (r : Reply) (st' : CodeState) → Call st p u r st' → u ≡ unit_at us p
      → PlaysRight set q xs us cue p (state_says st) → AnswersRight set q xs us cue p st u r
  answers-right {p} st u r st' c i w =
      let e = ap (λ (v : List ℕ). play (state_says st) p v) i ∙ w.answer in
      record { right = w; answer = shows-one r w.shown (c.answer ∙ ap (answer (λ (x : Played). x.shown)) e) }

  each_right : (s : State) {st : CodeState} {p : ℕ} {vs : List (List ℕ)} (i : s ≡ state_says st) (calls : Calls st p vs)
      → ((j : ℕ) → j < length vs → get_or vs j [] ≡ unit_at us (p + j))
      → Throughout (λ p st. PlaysRight set q xs us cue p st) (course-of s i calls) → EachCall (λ p st u r. AnswersRight set q xs us cue p st u r) calls
  unfolding course-of Throughout EachCall
  each_right s i over units t = tt
  each_right s i (call {st} {p} {u} {us = vs} r st' w k) units t = (
    answers-right st u r st' w (units 0 (omega arith) ∙ ap (unit_at us) (omega arith)) (subst (λ (s : State). PlaysRight set q xs us cue p s) i t.0),
    each_right (state_after s p u) (left_so s st i p u st' w.state) k (λ j h. units (suc j) (omega arith) ∙ ap (unit_at us) (omega arith)) t.1,
  )
  each_right s i (other {st} o v e st' w k) units t = each_right _ (left_so s st i o v st' w.state) k units t

-- demand 3's last part, of the running player: from a cue on, whatever refused calls lie between, the call with each unit read back answers right
pub called : {set : Settings} {xs : List Segment} {es : List Entry} {n : ℕ} {g : Given} (d : Demand set xs es n g) (us : List (List ℕ)) → ReadBack g.units us → (cue : ℕ) → Memᴰ cue g.cues
    → (calls : Calls start_state cue (drop (cue - 1) us)) → EachCall (λ p st u r. AnswersRight set d.header xs us cue p st u r) calls
called {set} {xs} d us w cue m calls =
    let (lo, hi, k) = (d.exactly cue).0 m in
    each_right set d.header xs us cue start refl calls (λ j h. get_or-drop (cue - 1) us j [] ∙ ap (λ (i : ℕ). get_or us i []) (omega arith)) (d.played us w cue m (course-of start refl calls))

-- ---- what the running code hands out: `shown_by`

-- the course with nothing before and between
pub quiet : (st : State) (p : ℕ) (us : List (List ℕ)) → Course st p us
quiet st p [] = done
quiet st p (u ∷ us) = plays (quiet (state_after st p u) (suc p) us)

-- the state in which unit k is played, from 0, in that course
unfoldable pub state_at : State → ℕ → List (List ℕ) → ℕ → State
state_at st p us zero = st
state_at st p [] (suc k) = st
state_at st p (u ∷ us) (suc k) = state_at (state_after st p u) (suc p) us k

throughout-at : (P : ℕ → State → Type 0) (st : State) (p : ℕ) (us : List (List ℕ)) → Throughout P (quiet st p us) → (k : ℕ) → k < length us → P (p + k) (state_at st p us k)
unfolding quiet Throughout state_at
throughout-at P st p [] t k h = absurd (omega arith)
throughout-at P st p (u ∷ us) t zero h = let n : p + 0 ≡ p = omega arith in rw n t.0
throughout-at P st p (u ∷ us) t (suc k) h =
    let n : p + suc k ≡ suc p + k = omega arith in
    rw n (throughout-at P (state_after st p u) (suc p) us t.1 k (omega arith))

shown_at : (st : State) (p : ℕ) (us : List (List ℕ)) (k : ℕ) → k < length us
    → get_or (shown_from st p us) k (accepted none) ≡ shown_of (play (state_at st p us k) (p + k) (get_or us k []))
unfolding shown_from state_at
shown_at st p [] k h = absurd (omega arith)
shown_at st p (u ∷ us) zero h = let n : p + 0 ≡ p = omega arith in rw n
shown_at st p (u ∷ us) (suc k) h =
    let n : p + suc k ≡ suc p + k = omega arith in
    rw n (shown_at (state_after st p u) (suc p) us k (omega arith))

right-shown : {set : Settings} {q : Sequence} {xs : List Segment} {us : List (List ℕ)} {c p : ℕ} {st : State} {a : Answer (Option ℕ)} (w : PlaysRight set q xs us c p st)
    → a ≡ shown_of (play st p (unit_at us p)) → a ≡ accepted (some w.shown)
right-shown w e = e ∙ ap shown_of w.answer

-- What is handed out for the position p, from the cue on, is what that position has to show.
pub record ShownRight (set : Settings) (q : Sequence) (xs : List Segment) (us : List (List ℕ)) (cue p : ℕ) : Type 0 where
  pub right : PlaysRight set q xs us cue p (state_at start cue (drop (cue - 1) us) (p - cue))
  pub shown : get_or (shown_by cue us) (p - cue) (accepted none) ≡ accepted (some right.shown)

module _ {set : Settings} {xs : List Segment} {es : List Entry} {n : ℕ} {g : Given} (d : Demand set xs es n g) (us : List (List ℕ)) (w : ReadBack g.units us)
    (cue : ℕ) (m : Memᴰ cue g.cues) where
  among : (1 ≤ cue) × (cue ≤ n)
  among = let (lo, hi, k) = (d.exactly cue).0 m in (lo, hi)

  length_back : length us ≡ n
  length_back = ap length (d.back us w) ∙ d.count

  -- there is an answer for each position from the cue to the last
  pub shown-count : length (shown_by cue us) ≡ n + 1 - cue
  unfolding shown_by
  shown-count = let (lo, hi) = among in shown-length (drop (cue - 1) us) start cue ∙ length-drop (cue - 1) us ∙ omega (arith, length_back)

  pub shown-right : (p : ℕ) → cue ≤ p → p ≤ n → ShownRight set d.header xs us cue p
  unfolding shown_by
  shown-right p from to =
      let (lo, hi) = among in
      let vs = drop (cue - 1) us in
      let k : cue + (p - cue) ≡ p = omega arith in
      let j : cue - 1 + (p - cue) ≡ p - 1 = omega arith in
      let h : p - cue < length vs = omega (arith, length-drop (cue - 1) us, length_back) in
      let t = rw k at (throughout-at _ start cue vs (d.played us w cue m (quiet start cue vs)) (p - cue) h) in
      let u : get_or vs (p - cue) [] ≡ unit_at us p = get_or-drop (cue - 1) us (p - cue) [] ∙ ap (λ (i : ℕ). get_or us i []) j in
      record {
        right = t;
        shown = right-shown t (rw (k, u) at (shown_at start cue vs (p - cue) h));
      }

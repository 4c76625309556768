-- Laws of a unit played in the code: its answer, and what is left.
use Prim.Native.Nat.{ℕ}
use native.Mathlib.Omega.{arith}
use mathlib.Core.Path.{◌≡◌, refl, sym, ap, ◌∙◌}
use mathlib.Core.List.{List}
use mathlib.Core.Bool.{Bool, true, false, cond as pick}
use mathlib.Core.Option.{Option, none, some}
use lib.ListN.{length}
use lib.Dec.{leb}
use Rattle.std.specs.Prelude.{Option as Optional, Some, None, Ok}
use Rattle.bitio.specs.Parse.{Answer, refused, accepted, answer, and_next}
use Rattle.bitio.specs.Limits.{limit, led34, limited}
use Rattle.bitio.proofs.ParseLaws.{next-chain}
use Rattle.obu.specs.Obu.{Obu, obus}
use Rattle.header.specs.Sequence.{Sequence, sequence_in}
use Rattle.header.specs.declared.seq_header.SequenceObu.{SequenceObu}
use Rattle.frame.specs.Frame.{parse_frame}
use Rattle.frame.specs.UnitFrame.{frame_payload, unit_frame}
use Rattle.frame.specs.declared.frame_header.FrameHeaderInfo.{FrameHeaderInfo}
use Rattle.player.specs.Player.{Held, Shown, keep, known, act, start, Played, play, leaves, state_after}
use Rattle.player.specs.Values.{shown_says, step_says, kept_says, kept_behind, state_says, start_state, left_in, state_left}
use Rattle.player.specs.declared.play.State.{State as CodeState}
use Rattle.player.proofs.KeepLaws.{behind-says}

-- ---- the unit as the code plays it

-- what a frame has done, with the header kept
abbrev pub left_by : Option Sequence → Answer Shown → Answer Played
left_by k a = and_next a (λ r. accepted (record { shown = r.shown; state = record { slots = r.slots; kept = k } }))

module _ (st : CodeState) (p : ℕ) (u : List ℕ) where
  -- under a header that is kept
  abbrev pub under : Sequence → Answer Played
  under q = and_next (unit_frame true q u) (λ x. left_by (some q) (act st.slots p x))

  -- its OBUs and sequence headers first, then its frame
  abbrev pub play_in_code : Answer Played
  play_in_code = led34 (length u) (and_next (kept_behind st.kept u) (λ k. and_next (known (kept_says k)) under))

  -- it is the definition's
  pub played_in : play_in_code ≡ play (state_says st) p u
  unfolding play and_next unit_frame
  played_in = ap (led34 (length u)) (said (kept_behind st.kept u) ∙ ap (λ y. and_next y (λ k. and_next (known k) under)) (behind-says st.kept u) ∙ chain (obus u) refl)
    where
      said : (x : Answer (Optional SequenceObu)) → and_next x (λ k. and_next (known (kept_says k)) under) ≡ and_next (answer kept_says x) (λ k. and_next (known k) under)
      said (refused n) = refl
      said (accepted k) = refl

      rest : List Obu → Sequence → Answer Played
      rest os q = and_next (frame_payload true os) (λ f. and_next (parse_frame q f) (λ x. left_by (some q) (act st.slots p x)))

      by-known : (os : List Obu) (k : Option Sequence) → obus u ≡ accepted os → and_next (known k) under ≡ and_next (known k) (rest os)
      by-known os none e = refl
      by-known os (some q) e = rw e (next-chain (frame_payload true os) (λ f. parse_frame q f) (λ x. left_by (some q) (act st.slots p x)))

      by-keep : (os : List Obu) (y : Answer (Option Sequence)) → obus u ≡ accepted os → and_next y (λ k. and_next (known k) under) ≡ and_next y (λ k. and_next (known k) (rest os))
      by-keep os (refused n) e = refl
      by-keep os (accepted k) e = by-known os k e

      chain : (x : Answer (List Obu)) → obus u ≡ x
          → and_next (and_next x (keep (kept_says st.kept))) (λ k. and_next (known k) under) ≡ and_next x (λ os. and_next (keep (kept_says st.kept) os) (λ k. and_next (known k) (rest os)))
      chain (refused n) e = refl
      chain (accepted os) e = by-keep os (keep (kept_says st.kept) os) e

-- ---- an accepted chain was accepted at each link

pub link : {A B R : Type 0} (x : Answer A) (k : A → Answer B) (b : B) → and_next x k ≡ accepted b → ((a : A) → x ≡ accepted a → k a ≡ accepted b → R) → R
unfolding and_next
link (refused n) k b e f = let z : ◌≡◌ {A = ℕ} 0 1 = cc in absurd (omega arith)
link (accepted a) k b e f = f a refl e

is-known : (k : Option Sequence) (q : Sequence) → known k ≡ accepted q → k ≡ some q
is-known none q e = let z : ◌≡◌ {A = ℕ} 0 1 = cc in absurd (omega arith)
is-known (some j) q e = let i : j ≡ q = cc in ap (λ y. some y) i

module _ (st : CodeState) (p : ℕ) (u : List ℕ) (r : Played) where
  -- the header that an accepted unit leaves is the one kept
  pub play-keeps : play (state_says st) p u ≡ accepted r → (k : Optional SequenceObu) × (kept_behind st.kept u ≡ accepted k) × (kept_says k ≡ r.state.kept)
  play-keeps e = go (leb (length u) limit) (played_in st p u ∙ e)
    where
      go : (b : Bool) → pick b (and_next (kept_behind st.kept u) (λ k. and_next (known (kept_says k)) (under st p u))) (refused 34) ≡ accepted r
          → (k : Optional SequenceObu) × (kept_behind st.kept u ≡ accepted k) × (kept_says k ≡ r.state.kept)
      go false e = let z : ◌≡◌ {A = ℕ} 0 1 = cc in absurd (omega arith)
      go true e =
          link (kept_behind st.kept u) _ r e (λ k i e. link (known (kept_says k)) _ r e (λ q j e. link (unit_frame true q u) _ r e (λ x l e. link (act st.slots p x) _ r e (λ y m e.
          let w : record { shown = y.shown; state = record { slots = y.slots; kept = some q } } ≡ r = cc in
          (k, i, is-known (kept_says k) q j ∙ ap (λ z. z.state.kept) w)))))

pub start-says : state_says start_state ≡ start
start-says = refl

-- what the state afterwards says
pub leaves-so : (st : CodeState) (p : ℕ) (u : List ℕ) → state_says (state_left st p u) ≡ state_after (state_says st) p u
unfolding state_left
leaves-so st p u = go (play (state_says st) p u) refl
  where
    go : (x : Answer Played) → play (state_says st) p u ≡ x → state_says (left_in st (kept_behind st.kept u) x) ≡ leaves (state_says st) x
    go (refused n) e = refl
    go (accepted r) e =
        let k = play-keeps st p u r e in
        rw k.1 (ap (λ y. record { slots = r.state.slots; kept = y }) k.2)

-- ---- the outcomes in the code

module _ (st : CodeState) (p : ℕ) (u : List ℕ) where
  -- refused: the answer, and the state as it was
  abbrev pub Refuses : ℕ → Type 0
  Refuses n = (refused n ≡ answer (λ (r : Played). r.shown) (play (state_says st) p u)) × (st ≡ state_left st p u)

  refuses : (n : ℕ) → play_in_code st p u ≡ refused n → Refuses n
  unfolding state_left
  refuses n e = let i = sym (played_in st p u) ∙ e in rw i (refl, refl)

  -- the test of the length refuses, or it passes
  pub long : (n : ℕ) → refused n ≡ limited u (accepted (tt {0})) → Refuses n
  unfolding limited
  long n e = refuses n (go (leb (length u) limit) e)
    where
      go : (b : Bool) → refused n ≡ pick b (accepted (tt {0})) (refused 34) → pick b (and_next (kept_behind st.kept u) (λ k. and_next (known (kept_says k)) (under st p u))) (refused 34) ≡ refused n
      go false e = let k : 34 ≡ n = cc in ap (λ (i : ℕ). refused i) k
      go true e = let z : ◌≡◌ {A = ℕ} 0 1 = cc in absurd (omega arith)

  short : accepted (tt {0}) ≡ limited u (accepted (tt {0})) → leb (length u) limit ≡ true
  unfolding limited
  short e = go (leb (length u) limit) e
    where
      go : (b : Bool) → accepted (tt {0}) ≡ pick b (accepted (tt {0})) (refused 34) → b ≡ true
      go true e = refl
      go false e = let z : ◌≡◌ {A = ℕ} 0 1 = cc in absurd (omega arith)

  module _ (h : accepted (tt {0}) ≡ limited u (accepted (tt {0}))) where
    pub at-headers : (n : ℕ) → refused n ≡ kept_behind st.kept u → Refuses n
    unfolding and_next
    at-headers n e = refuses n (rw (short h, ← e))

    pub at-none : accepted None ≡ kept_behind st.kept u → Refuses 26
    unfolding and_next
    at-none e = refuses 26 (rw (short h, ← e))

    module _ (x : SequenceObu) (e : accepted (Some x) ≡ kept_behind st.kept u) where
      pub at-frame : (n : ℕ) → refused n ≡ unit_frame true (sequence_in x) u → Refuses n
      unfolding and_next
      at-frame n f = refuses n (rw (short h, ← e, ← f))

      module _ (info : FrameHeaderInfo) (f : accepted info ≡ unit_frame true (sequence_in x) u) where
        acts : play_in_code st p u ≡ left_by (some (sequence_in x)) (act st.slots p info)
        unfolding and_next
        acts = rw (short h, ← e, ← f)

        pub at-slots : (n : ℕ) → refused n ≡ act st.slots p info → Refuses n
        unfolding and_next
        at-slots n g = refuses n (acts ∙ ap (left_by (some (sequence_in x))) (sym g))

        leaves-shown : (y : Shown) → accepted y ≡ act st.slots p info
            → (accepted y.shown ≡ answer (λ (r : Played). r.shown) (play (state_says st) p u)) × (record { slots = y.slots; kept = Some x } ≡ state_left st p u)
        unfolding state_left and_next
        leaves-shown y g = let k = sym (played_in st p u) ∙ acts ∙ ap (left_by (some (sequence_in x))) (sym g) in rw (k, ← e) (refl, refl)

        pub at-shown : (ss : List Held) (o : Optional ℕ) → step_says (Ok (ss, o)) ≡ act st.slots p info
            → (shown_says (Ok o) ≡ answer (λ (r : Played). r.shown) (play (state_says st) p u)) × (record { slots = ss; kept = Some x } ≡ state_left st p u)
        at-shown ss None g = leaves-shown _ g
        at-shown ss (Some q) g = leaves-shown _ g

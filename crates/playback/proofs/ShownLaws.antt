-- Laws of units played from a cue on.
use Prim.Native.Nat.{ℕ, suc, ◌+◌, ◌-◌, ◌≤◌, ◌<◌}
use native.Mathlib.Omega.{arith}
use native.Mathlib.Numerals.{add-one}
use mathlib.Core.Path.{◌≡◌, refl, sym, ap, ap₂, ◌∙◌}
use mathlib.Core.List.{List, [], ◌∷◌, ◌++◌, append_assoc, append-nil}
use mathlib.Core.Option.{Option}
use mathlib.Core.Bool.{Bool, true, false, cond as pick, ◌&&◌}
use lib.ListN.{length, get_or, drop, set, length-append, length-drop, length-map, drop_of_length-le}
use lib.Seq.{drop-cons}
use lib.Dec.{leb}
use borrow.Author.Tests.{le-leb, lt-leb, leb-true}
use Rattle.bitio.specs.Limits.{limit, limited}
use Rattle.bitio.proofs.LimitLaws.{limit_passed}
use Rattle.std.specs.Prelude.{Option as Optional, Result, Ok, Err}
use Rattle.bitio.specs.Refusal.{number}
use Rattle.bitio.specs.declared.refusal.Refusal.{Refusal}
use Rattle.bitio.specs.declared.refusal.Refusal.TheVariants.{NoRoom, NotAList}
use Rattle.bitio.specs.Parse.{Answer, refused, accepted, answer, and_next}
use Rattle.bitio.specs.Lent.{pasted}
use Rattle.bitio.proofs.LentLaws.{pasted-nil, pasted-set, pasted_length}
use Rattle.container.specs.Units.{units_at, count_of, out_after}
use Rattle.container.specs.Lists.{listed, unit_of, accepts}
use Rattle.container.proofs.ListLaws.{units-listed, listed-length}
use Rattle.player.specs.Player.{State, start, play, leaves, state_after}
use Rattle.player.specs.Values.{shown_says}
use Rattle.playback.specs.Lent.{Fills}
use Rattle.playback.specs.Shown.{shown_of, Shows, all_say, shown_from, shown_by, from_cue, play_from, CanPlay}

-- ---- units cut from their bytes

pub none-cut : {A : Type 0} {k : ℕ} {a : A} → refused k ≡ accepted a → ⊥
none-cut e = let z : ◌≡◌ {A = ℕ} 0 1 = cc in omega arith

module _ (s es : List ℕ) (us : List (List ℕ)) (q : units_at s es ≡ accepted us) where
  units-are : us ≡ listed s es
  units-are =
      let e = units-listed s es (ap accepts q) in
      let d : accepted us ≡ accepted (listed s es) = sym q ∙ e in
      cc

  units-count : length us ≡ length es
  units-count = ap length units-are ∙ listed-length 0 s es

-- ---- the turns of playing

pub shown-length : (us : List (List ℕ)) (st : State) (p : ℕ) → length (shown_from st p us) ≡ length us
unfolding shown_from
shown-length [] st p = refl
shown-length (u ∷ us) st p = ap suc (shown-length us _ _)

-- units are played up to number i, from 0; lent memory was d
pub record Playing (s es : List ℕ) (cue : ℕ) (d : Shows) (st : State) (i : ℕ) (o : Shows) : Type 0 where
  pub can : CanPlay s es cue (length d)
  pub front : Shows
  pub place : i + 1 ≡ cue + length front
  pub within : length front ≤ length d
  pub whole : shown_by cue can.all ≡ front ++ shown_from st (suc i) (drop i can.all)
  pub lent : o ≡ pasted d 0 front

pub playing-start : {s es : List ℕ} {cue : ℕ} {st : State} (d : List (Result (Optional ℕ) Refusal)) → CanPlay s es cue (length d) → st ≡ start
    → Playing s es cue (all_say d) st (cue - 1) (all_say d)
unfolding shown_by
playing-start {cue = cue} {st} d c q =
    let m : suc (cue - 1) ≡ cue = omega (arith, c.from) in
    let n = length-map d shown_says in
    record {
      can = record { all = c.all; cut = c.cut; from = c.from; to = c.to; room = omega (arith, c.room, n) };
      front = [];
      place = omega (arith, c.from);
      within = omega arith;
      whole = rw (q, m);
      lent = sym (pasted-nil (all_say d) 0);
    }

module _ {s es : List ℕ} {cue : ℕ} {d : Shows} {st : State} {i : ℕ} {o : Shows} (z : Playing s es cue d st i o) where
  playing-long : length o ≡ length d
  playing-long = ap length z.lent ∙ pasted_length d 0 z.front (omega (arith, z.within))

  abbrev all : List (List ℕ)
  all = z.can.all

  count : length all ≡ length es
  count = units-count s es all z.can.cut

  pub playing-end : length es ≤ i → o ≡ out_after (answer (shown_by cue) (units_at s es)) d
  unfolding shown_from
  playing-end h =
      let n : drop i all ≡ [] = drop_of_length-le all {i = i} (omega (arith, count)) in
      let w : shown_by cue all ≡ z.front = z.whole ∙ ap (λ l. z.front ++ shown_from st (suc i) l) n ∙ append-nil z.front in
      z.lent ∙ ap (pasted d 0) (sym w) ∙ sym (ap (λ x. out_after (answer (shown_by cue) x) d) z.can.cut)

  module _ (h : i < length es) where
    playing-slot : i + 1 - cue < length o
    playing-slot = omega (arith, playing-long, z.can.room, z.place)

    module _ (v : Answer (Option ℕ)) (t : State) (says : v ≡ shown_of (play st (i + 1) (unit_of s es i))) (left : t ≡ state_after st (i + 1) (unit_of s es i)) where
      abbrev u : List ℕ
      u = get_or all i []

      u-is : u ≡ unit_of s es i
      u-is = ap (λ l. get_or l i []) (units-are s es all z.can.cut)

      same : play st (i + 1) (unit_of s es i) ≡ play st (suc i) u
      same = ap₂ (λ n v. play st n v) (add-one i) (sym u-is)

      turn : shown_from st (suc i) (drop i all) ≡ v ∷ shown_from t (suc (i + 1)) (drop (i + 1) all)
      unfolding shown_from
      turn =
          ap (shown_from st (suc i)) (drop-cons all i [] (omega (arith, count)))
          ∙ ap₂ (λ n t. n ∷ shown_from t (suc (suc i)) (drop (suc i) all)) (sym (says ∙ ap shown_of same)) (sym (left ∙ ap (leaves st) same))
          ∙ ap (λ n. v ∷ shown_from t (suc n) (drop n all)) (sym (add-one i))

      pub playing-next : Playing s es cue d t (i + 1) (set o (i + 1 - cue) v)
      playing-next =
          let l = playing-slot in
          let n : i + 1 - cue ≡ 0 + length z.front = omega (arith, z.place) in
          let m = length-append z.front (v ∷ []) in
          record {
            can = z.can;
            front = z.front ++ (v ∷ []);
            place = omega (arith, m, z.place);
            within = omega (arith, m, l, n, playing-long);
            whole = z.whole ∙ ap (λ x. z.front ++ x) turn ∙ sym (append_assoc z.front (v ∷ []) (shown_from t (suc (i + 1)) (drop (i + 1) all)));
            lent = ap₂ (λ x y. set x y v) z.lent n ∙ pasted-set d 0 z.front v (omega (arith, n, l, playing-long));
          }

-- ---- the whole

module _ (s es : List ℕ) (cue : ℕ) (shown : List (Result (Optional ℕ) Refusal)) where
  abbrev d : Shows
  d = all_say shown

  d-long : length d ≡ length shown
  d-long = length-map shown shown_says

  abbrev result : Answer Shows
  result = play_from (length d) cue s es

  abbrev pub Tells : Result ℕ Refusal → Shows → Type 0
  Tells r o = Fills (λ room. play_from room cue s es) r (record { entry = d; exit = o })

  refuses : (e : Refusal) → result ≡ refused (number e) → Tells (Err e) d
  refuses e q = record { answer = sym (ap (λ x. count_of x) q); lent = sym (ap (λ x. out_after x d) q) }

  pub play-long : {e : Refusal} → ◌≡◌ {A = Answer (Unit {0})} (refused (number e)) (limited s (accepted tt)) → Tells (Err e) d
  unfolding play_from and_next
  play-long {e} w = let (l, k) = limit_passed s w in refuses e (rw (lt-leb (length s) limit l, k))

  module _ (short : length s ≤ limit) where
    pub play-none : (e : Refusal) → units_at s es ≡ refused (number e) → Tells (Err e) d
    unfolding play_from and_next
    play-none e n = refuses e (rw (le-leb (length s) limit short, n))

    module _ (is : accepts (units_at s es) ≡ true) where
      abbrev us : List (List ℕ)
      us = listed s es

      us-are : units_at s es ≡ accepted us
      us-are = units-listed s es is

      us-count : length us ≡ length es
      us-count = listed-length 0 s es

      play-cued : result ≡ from_cue (length d) cue us
      unfolding play_from and_next
      play-cued = rw (le-leb (length s) limit short, us-are)

      pub play-outside : (1 ≤ cue → cue ≤ length es → ⊥) → Tells (Err NotAList) d
      play-outside h = refuses NotAList (play-cued ∙ go (leb 1 cue) (leb cue (length us)) refl refl)
        where
          go : (x y : Bool) → leb 1 cue ≡ x → leb cue (length us) ≡ y → pick (x && y) (pick (leb (length (shown_by cue us)) (length d)) (accepted (shown_by cue us)) (refused 35)) (refused 36) ≡ refused 36
          go true true a b = absurd (h (leb-true 1 cue a) (omega (arith, us-count, leb-true cue (length us) b)))
          go true false a b = refl
          go false y a b = refl

      module _ (from : 1 ≤ cue) (to : cue ≤ length es) where
        play-inside : result ≡ pick (leb (length (shown_by cue us)) (length d)) (accepted (shown_by cue us)) (refused 35)
        play-inside = play-cued ∙ rw (le-leb 1 cue from, le-leb cue (length us) (omega (arith, us-count)))

        count-is : length (shown_by cue us) ≡ length es - (cue - 1)
        unfolding shown_by
        count-is = shown-length (drop (cue - 1) us) start cue ∙ length-drop (cue - 1) us ∙ ap (λ n. n - (cue - 1)) us-count

        module _ {n : ℕ} (k : n ≡ length es - (cue - 1)) where
          pub play-full : length shown < n → Tells (Err NoRoom) d
          play-full l = refuses NoRoom (play-inside ∙ rw (lt-leb (length (shown_by cue us)) (length d) (omega (arith, count-is, k, l, d-long))))

          module _ (l : n ≤ length shown) where
            pub play-room : CanPlay s es cue (length shown)
            play-room = record { all = us; cut = us-are; from = from; to = to; room = omega arith }

            play-all : result ≡ accepted (shown_by cue us)
            play-all = play-inside ∙ rw (le-leb (length (shown_by cue us)) (length d) (omega (arith, count-is, k, l, d-long)))

            pub play-done : {o : Shows} → o ≡ out_after (answer (shown_by cue) (units_at s es)) d → Tells (Ok n) o
            play-done q =
                let e : n ≡ length (shown_by cue us) = k ∙ sym count-is in
                record { answer = rw (play-all, e); lent = q ∙ ap (λ x. out_after (answer (shown_by cue) x) d) us-are ∙ sym (ap (λ x. out_after x d) play-all) }

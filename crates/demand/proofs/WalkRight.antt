-- What the running `walk` hands out is what demand 3 claims.
use Prim.Native.Nat.{ℕ, ◌+◌, ◌-◌, ◌≤◌}
use mathlib.Core.Path.{◌≡◌, sym, ap, subst, ◌∙◌}
use mathlib.Core.List.{List, Memᴰ}
use mathlib.Core.Option.{none, some}
use mathlib.Core.Bool.{Bool, true, false, cond as pick, ◌&&◌}
use lib.ListN.{length, get_or, take, drop}
use lib.Dec.{leb}
use denote.Triple.Both.{Both}
use Rattle.bitio.specs.Parse.{Answer, refused, accepted}
use Rattle.bitio.specs.Lent.{pasted}
use Rattle.bitio.proofs.LentLaws.{pasted-front}
use Rattle.container.specs.Limits.{Room, bytes_room, fits}
use Rattle.container.specs.Stream.{stream_bytes}
use Rattle.container.specs.Container.{Container}
use Rattle.blocks.specs.Blocks.{total}
use Rattle.std.specs.Prelude.{Result, Ok}
use Rattle.pictures.specs.Says.{outcome_of}
use Rattle.pictures.specs.declared.fault.Fault.{Fault}
use Rattle.pictures.specs.Segments.{Segment, frames_of, segments_of}
use Rattle.pictures.specs.declared.settings.Settings.{Settings}
use Rattle.pictures.specs.Assemble.{Outcome, made, overall, Output, OutputRoom, assemble, units_of}
use Rattle.assemble.specs.Whole.{Lent, outcome}
use Rattle.player.proofs.StepLaws.{link}
use Rattle.player.specs.Player.{start}
use Rattle.demand.specs.Premises.{Formed, InFields}
use Rattle.demand.specs.Demand.{PlaysRight, ReadBack, Demand3}
use Rattle.playback.specs.Lent.{store_room}
use Rattle.playback.specs.Gather.{gathered}
use Rattle.playback.specs.Shown.{Shows, shown_by, from_cue}
use Rattle.playback.specs.Way.{PlayLent, written, carried_units, shown}
use Rattle.playback.specs.Walk.{walk, Walks}
use Rattle.demand.proofs.AssembleLaws.{link-made}
use Rattle.demand.proofs.Demand3.{demand3-formed}
use Rattle.demand.proofs.Calls.{state_at, shown-count, shown-right}

picked : {A : Type 0} (t : Bool) (x y : A) (n : ℕ) → pick t (accepted x) (refused n) ≡ accepted y → x ≡ y
picked true x y n e = cc
picked false x y n e = cc

gathered-same : (vs : List (List ℕ)) (room : Room) (us : List (List ℕ)) → gathered vs room ≡ accepted us → vs ≡ us
unfolding gathered
gathered-same vs room us w = picked (fits (length (stream_bytes vs)) (length vs) room) vs us 35 w

from_is : (room cue : ℕ) (us : List (List ℕ)) (ls : Shows) → from_cue room cue us ≡ accepted ls → shown_by cue us ≡ ls
from_is room cue us ls e = go (leb 1 cue && leb cue (length us)) e
  where
    go : (t : Bool) → pick t (pick (leb (length (shown_by cue us)) room) (accepted (shown_by cue us)) (refused 35)) (refused 36) ≡ accepted ls → shown_by cue us ≡ ls
    go true e = picked (leb (length (shown_by cue us)) room) (shown_by cue us) ls 35 e
    go false e = cc

-- the answers are those of the units read back
way-is : (c : Container) (vs : List (List ℕ)) (cue : ℕ) (d : PlayLent) (ls : Shows) → shown c vs cue d ≡ accepted ls → (us : List (List ℕ)) × (ReadBack vs us) × (shown_by cue us ≡ ls)
unfolding shown carried_units written
way-is c vs cue d ls w =
    link _ _ ls w (λ us w₁ w. link _ _ us w₁ (λ bs w₂ w₃. link _ _ bs w₂ (λ gs w₄ w₅. (
      us,
      record {
        container = c;
        room = bytes_room (length d.carried.written.out);
        bytes = bs;
        written = rw (gathered-same vs (store_room d.carried.written.units) gs w₄) w₅;
        room' = store_room d.carried.back;
        read_back = w₃;
      },
      from_is (length d.shown) cue us ls w,
    ))))

of-overall : {A : Type 0} (t : Answer A) (a : A) → overall t ≡ made a → t ≡ accepted a
unfolding overall
of-overall (accepted x) a e = let z : x ≡ a = cc in rw z
of-overall (refused n) a e = cc

-- what was handed out, and the answers ls
pub record WalksRight (set : Settings) (xs : List Segment) (x : Outcome Output) (cue : ℕ) (ls : Shows) : Type 0 where
  pub output : Output
  pub is : x ≡ made output
  pub demanded : Demand3 set xs output
  pub count : Memᴰ cue output.cues → length ls ≡ total (frames_of xs) + 1 - cue
  -- each position from a cue on shows what it has to, in the state that the plays before it leave, and that is its answer
  pub right : Memᴰ cue output.cues → (p : ℕ) → cue ≤ p → p ≤ total (frames_of xs)
      → (w : PlaysRight set demanded.header xs (units_of output) cue p (state_at start cue (drop (cue - 1) (units_of output)) (p - cue))) × (get_or ls (p - cue) (accepted none) ≡ accepted (some w.shown))

module _ (c : Container) (room : OutputRoom) (set : Settings) (picture numbers : List ℕ) (xs : List Segment) (fields : InFields set) (segments : segments_of picture numbers ≡ accepted xs)
    (formed : Formed xs) (cue : ℕ) (d : PlayLent) (ls : Shows) where
  walk-right : walk c cue (assemble room set picture numbers) d ≡ made ls → WalksRight set xs (assemble room set picture numbers) cue ls
  unfolding walk
  walk-right e =
      link-made _ _ ls e (λ o e₁ e.
      let dem = demand3-formed room set picture numbers xs o fields segments formed e₁ in
      let (us, w, n) = way-is c (units_of o) cue d ls (of-overall _ ls e) in
      record {
        output = o;
        is = e₁;
        demanded = dem;
        count = λ m. ap length (sym n) ∙ shown-count dem us w cue m;
        right = λ m p from to.
            let r = shown-right dem us w cue m p from to in
            subst (λ (vs : List (List ℕ)). (w : PlaysRight set dem.header xs vs cue p (state_at start cue (drop (cue - 1) vs) (p - cue))) × (get_or ls (p - cue) (accepted none) ≡ accepted (some w.shown))) (dem.back us w)
            (r.right, ap (λ (l : Shows). get_or l (p - cue) (accepted none)) (sym n) ∙ r.shown);
      })

-- ---- by the contract of the code

same-made : {A : Type 0} (x y : A) → made x ≡ made y → x ≡ y
same-made x y e = cc

-- Where the running `walk` answers Ok n, the first n answers in its last lent slice are right.
pub walked-right : (c : Container) (cue : ℕ) (picture numbers : List ℕ) (set : Settings) (r : Result ℕ Fault) (l : Both Lent Lent) (d : Both PlayLent PlayLent)
    → Walks c cue (outcome picture numbers set) r l d → (xs : List Segment) → InFields set → segments_of picture numbers ≡ accepted xs → Formed xs → (n : ℕ) → r ≡ Ok n
    → WalksRight set xs (outcome picture numbers set l.entry) cue (take n d.exit.shown)
unfolding walk outcome
walked-right c cue picture numbers set r l d w xs fields segments formed n is =
    link-made _ _ n (sym w.answer ∙ ap outcome_of is) (λ ls e e₁.
    link-made _ _ ls e (λ o e₂ e₃.
    let m : d.exit.shown ≡ pasted d.entry.shown 0 ls = ap (λ (y : PlayLent). y.shown) w.way ∙ rw (e₂, of-overall _ ls e₃) in
    let h : take n d.exit.shown ≡ ls = ap (take n) m ∙ pasted-front d.entry.shown ls n (sym (same-made (length ls) n e₁)) in
    subst (λ (ns : Shows). WalksRight set xs (outcome picture numbers set l.entry) cue ns) (sym h)
    (walk-right c _ set picture numbers xs fields segments formed cue d.entry ls e)))

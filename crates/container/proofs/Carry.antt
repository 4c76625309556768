-- Writing a list of units and reading it back, with 01's limits: the containers' part of demand 3.
use Prim.Native.Nat.{ℕ, ◌≤◌, ◌<◌}
use native.Mathlib.Omega.{arith}
use mathlib.Core.Path.{◌≡◌, refl}
use mathlib.Core.List.{List}
use mathlib.Core.Bool.{true}
use mathlib.Core.Logic.{◌⊎◌, inl, inr}
use lib.ListN.{length}
use lib.Dec.{leb}
use borrow.Author.Tests.{leb-true}
use Rattle.bitio.specs.Parse.{Answer, refused, accepted}
use Rattle.bitio.specs.Every.{Every}
use Rattle.bitio.proofs.ParseLaws.{pick-cases, pick-both, and_both}
use Rattle.bitio.specs.Every.Every.{nothing, also}
use Rattle.container.specs.Stream.{stream_bytes}
use Rattle.bitio.specs.Limits.{limit}
use Rattle.container.specs.Limits.{Room, fits}
use Rattle.container.specs.Container.{Container, stream, annexb, units_in, bytes_in, read, write}
use Rattle.container.proofs.RoundTrip.{InForm, Whole, stream-back, annexb-wrote, annexb-round}

-- ---- demand 3: 34 and 35 are all that writing refuses with, 35 all that reading back does; else the units come back

abbrev pub CameBack : List (List ℕ) → Answer (List (List ℕ)) → Type 0
CameBack us (refused k) = k ≡ 35
CameBack us (accepted vs) = vs ≡ us

abbrev pub Carried : Container → Room → List (List ℕ) → Answer (List ℕ) → Type 0
Carried c room us (refused k) = (k ≡ 34) ⊎ (k ≡ 35)
Carried c room us (accepted bs) = CameBack us (read c room bs)

all-written : {us : List (List ℕ)} → Every Whole us → Every InForm us
all-written nothing = nothing
all-written (also h hs) = also (h.held, h.written) (all-written hs)

module _ (us : List (List ℕ)) (w : Every Whole us) (some : 0 < length us) where
  -- what was written, and is short enough, is read back
  back : (c : Container) → length (stream_bytes us) ≤ limit → (bs : List ℕ) → bytes_in c us ≡ accepted bs → length bs ≤ limit → units_in c bs ≡ accepted us
  back stream l bs e m = let p : stream_bytes us ≡ bs = cc in rw (← p) (stream-back w (omega arith))
  back annexb l bs e m = annexb-round (all-written w) (omega arith) some bs e (omega arith)

  bytes-in : (c : Container) → length (stream_bytes us) ≤ limit → (bs : List ℕ) × (bytes_in c us ≡ accepted bs)
  bytes-in stream l = (stream_bytes us, refl)
  bytes-in annexb l = annexb-wrote (all-written w) (omega arith)

  pub carried : (c : Container) (room room' : Room) → Carried c room' us (write c room us)
  unfolding write read
  carried c room room' =
      pick-cases (Carried c room' us) (leb (length (stream_bytes us)) limit)
      (λ h. let l = leb-true _ _ h in
      let x = bytes-in c l in
      rw x.1 (pick-cases (Carried c room' us) (fits (length x.0) 0 room)
      (λ k. let m : leb (length x.0) limit ≡ true = (and_both _ _ k).0 in
      rw (m, back c l x.0 x.1 (leb-true _ _ m)) (pick-both (CameBack us) (fits (length (stream_bytes us)) (length us) room') refl refl))
      (λ k. inr refl)))
      (λ h. inl refl)

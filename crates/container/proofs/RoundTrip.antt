-- Units in written form come back from the stream and from Annex B, byte for byte.
use Prim.Native.Nat.{ℕ, ◌^◌, ◌<◌}
use native.Mathlib.Omega.{arith}
use mathlib.Core.Path.{◌≡◌, refl, sym, ap, ◌∙◌}
use mathlib.Core.List.{List, [], ◌∷◌, map, flat_map}
use mathlib.Core.Bool.{Bool, true, false}
use lib.ListN.{length, length-append, length-map}
use Rattle.bitio.specs.Parse.{accepted}
use Rattle.bitio.specs.Every.{Every}
use Rattle.bitio.specs.Every.Every.{nothing, also}
use Rattle.obu.specs.Obu.{Obu, unit_bytes, Written}
use Rattle.obu.proofs.ObuLaws.{Allowed, obus-allowed}
use Rattle.obu.specs.Unit.{is_delimiter, is_frame, count}
use Rattle.container.specs.Stream.{stream_units, flat, stream_bytes}
use Rattle.container.proofs.StreamLaws.{tick, Single, leads, Run, done, next, opened, ready, stream-run}
use Rattle.container.specs.AnnexB.{annexb_unit, annexb_units, annexb_bytes}
use Rattle.container.proofs.AnnexBLaws.{annexb-write, annexb-back}

-- a unit in written form, by some OBUs
abbrev pub InForm : List ℕ → Type 0
InForm u = (os : List Obu) × Written u os

-- a unit as demand 3 has it: the first OBU is a delimiter and no other is, and one is a frame
pub record Whole (u : List ℕ) : Type 0 where
  pub held : List Obu
  pub written : Written u held
  pub led : leads held ≡ true
  pub alone : count is_delimiter held ≡ 1
  pub single : count is_frame held ≡ 1

-- ---- such units by their OBUs

pub record Held (us : List (List ℕ)) : Type 0 where
  pub all : List (List Obu)
  pub allowed : Every (Every Allowed) all
  pub same : map unit_bytes all ≡ us

form-held : {us : List (List ℕ)} → Every InForm us → length (stream_bytes us) < 2 ^ 56 → Held us
unfolding stream_bytes flat
form-held nothing l = record { all = []; allowed = nothing; same = refl }
form-held (also {a = u} {l = us} (os, w) ws) l =
    let n = length-append u (flat us) in
    let r = form-held ws (omega arith) in
    record {
      all = os ∷ r.all;
      allowed = also (obus-allowed u os (omega arith) w.reads) r.allowed;
      same = rw (w.bytes, r.same);
    }

led-single : (os : List Obu) → leads os ≡ true → count is_delimiter os ≡ 1 → count is_frame os ≡ 1 → Single os × (opened os ≡ true)
unfolding count
led-single [] a b c = absurd (omega arith)
led-single (o ∷ os) a b c = (record { trimmed = go (is_delimiter o) a b; single = c }, rw a)
  where
    go : (x : Bool) → x ≡ true → tick x (count is_delimiter os) ≡ 1 → count is_delimiter os ≡ 0
    go true e b = omega arith
    go false e b = let z : ◌≡◌ {A = ℕ} 0 1 = cc in absurd (omega arith)

-- whole units are a run
pub record Wholes (us : List (List ℕ)) : Type 0 where
  pub units : Held us
  pub run : Run units.all
  pub starts : ready units.all ≡ true

wholes : {us : List (List ℕ)} → Every Whole us → length (stream_bytes us) < 2 ^ 56 → Wholes us
unfolding stream_bytes flat
wholes nothing l = record { units = record { all = []; allowed = nothing; same = refl }; run = done; starts = refl }
wholes (also {a = u} {l = us} w ws) l =
    let n = length-append u (flat us) in
    let r = wholes ws (omega arith) in
    let x = w.written in
    let k = led-single w.held w.led w.alone w.single in
    record {
      units = record {
        all = w.held ∷ r.units.all;
        allowed = also (obus-allowed u w.held (omega arith) x.reads) r.units.allowed;
        same = rw (x.bytes, r.units.same);
      };
      run = next k.0 r.starts r.run;
      starts = k.1;
    }

-- ---- the two round trips

-- whole units, one behind the other, are read back from the stream
pub stream-back : {us : List (List ℕ)} → Every Whole us → length (stream_bytes us) < 2 ^ 56 → stream_units (stream_bytes us) ≡ accepted us
stream-back w l = let r = wholes w l in rw (← r.units.same) (stream-run r.units.allowed r.run)

-- units in written form can be written to Annex B, and are read back from what was written
pub annexb-wrote : {us : List (List ℕ)} → Every InForm us → length (stream_bytes us) < 2 ^ 56 → (bs : List ℕ) × (annexb_bytes us ≡ accepted bs)
annexb-wrote w l = let r = form-held w l in (flat_map annexb_unit r.all, sym (ap annexb_bytes r.same) ∙ annexb-write r.allowed)

pub annexb-round : {us : List (List ℕ)} → Every InForm us → length (stream_bytes us) < 2 ^ 56 → 0 < length us
    → (bs : List ℕ) → annexb_bytes us ≡ accepted bs → length bs < 2 ^ 56 → annexb_units bs ≡ accepted us
annexb-round {us} w l some bs e m =
    let r = form-held w l in
    let q = sym (ap annexb_bytes r.same) ∙ annexb-write r.allowed in
    let p : flat_map annexb_unit r.all ≡ bs = cc in
    let n : 0 < length r.all = omega (arith, length-map r.all unit_bytes, ap length r.same) in
    ap annexb_units (sym p) ∙ annexb-back r.allowed n (rw p m) ∙ ap accepted r.same

-- Laws of the measuring pass of Annex B: what each of its three loops has behind it.
use Prim.Native.Nat.{ℕ, ◌+◌, ◌*◌, ◌≤◌, ◌<◌}
use native.Mathlib.Omega.{arith}
use mathlib.Core.Path.{◌≡◌, refl, sym, ap, ◌∙◌}
use mathlib.Core.List.{List, [], ◌∷◌, ◌++◌, map, flat_map, append-nil}
use mathlib.Core.Option.{Option}
use lib.ListN.{length, length-append, length-map}
use Rattle.bitio.specs.Parse.{Answer, refused, accepted, answer, stop, item, before, many}
use Rattle.bitio.specs.Leb.{sized}
use Rattle.bitio.proofs.LebLaws.{bytes_most}
use Rattle.obu.specs.Obu.{Obu, obu_bytes, unit_bytes}
use Rattle.obu.specs.Write.{obu_length}
use Rattle.obu.proofs.LengthLaws.{obu-length}
use Rattle.container.specs.Stream.{flat, stream_bytes}
use Rattle.container.specs.AnnexB.{length_obu, frame_unit_of, frame_unit, temporal_unit_of, temporal_unit}
use Rattle.bitio.specs.Limits.{limit, capped}
use Rattle.annexb.specs.code.Fill.{units_read}
use Rattle.container.specs.Units.{sizes_of}
use Rattle.container.proofs.StreamLaws.{bytes-append, bytes-flat, flat_append}
use Rattle.container.proofs.AnnexBLaws.{length-shrinks, frame-shrinks, temporal-shrinks}
use Rattle.annexb.proofs.PassedLaws.{Passed, passed_start, passed-next, passed-end, passed-stop}
use Rattle.annexb.proofs.PartLaws.{part-less, length-less}
use Rattle.obu.proofs.WriteLaws.{ext-most}

-- ---- bytes of what is behind, and one more

pub unit-more : (a : List Obu) (o : Obu) → unit_bytes (a ++ (o ∷ [])) ≡ unit_bytes a ++ obu_bytes o
unfolding unit_bytes flat_map
unit-more a o = bytes-append a (o ∷ []) ∙ ap (λ l. unit_bytes a ++ l) (append-nil (obu_bytes o))

pub flat-more : {A : Type 0} (a : List (List A)) (u : List A) → flat (a ++ (u ∷ [])) ≡ flat a ++ u
unfolding flat
flat-more a u = flat_append a (u ∷ []) ∙ ap (λ l. flat a ++ l) (append-nil u)

pub flat-bytes : (a : List (List Obu)) (u : List Obu) → unit_bytes (flat (a ++ (u ∷ []))) ≡ unit_bytes (flat a) ++ unit_bytes u
flat-bytes a u = ap unit_bytes (flat-more a u) ∙ bytes-append (flat a) u

-- ---- how long an OBU gets

-- at most twelve bytes more than its payload
pub obu-most : (x : Option ℕ) (n : ℕ) → n ≤ limit → obu_length x n ≤ n + 12
obu-most x n l = omega (arith, ext-most x, bytes_most 9 n (omega arith))

-- as many bytes as were measured, and at most twelve for each byte read
pub obu-measured : (s : List ℕ) {r : List ℕ} {o : Obu} → length_obu s ≡ item o r → length s ≤ limit → {n : ℕ} → n ≡ capped (obu_length o.ext (length o.payload)) → (n ≡ length (obu_bytes o)) × (n + 12 * length r ≤ 12 * length s)
obu-measured s {r} {o} q l {n} m =
    let z = length-less s q in
    let k = obu-most o.ext (length o.payload) (omega arith) in
    let w = obu-length o in
    (omega arith, omega arith)

-- ---- what the loops have behind them

-- the units before what is left are read, with so many bytes
pub record UnitsDone (s left : List ℕ) (bytes units : ℕ) : Type 0 where
  pub done : List (List Obu)
  pub passed : Passed temporal_unit s left done
  pub bytes-are : bytes ≡ length (unit_bytes (flat done))
  pub units-are : units ≡ length done
  pub few : bytes + 12 * length left ≤ 12 * length s
  pub fewer : units + length left ≤ length s

-- of a unit, what follows it being `behind`, the frame units before what is left are read
pub record FramesDone (s left behind : List ℕ) (bytes units : ℕ) : Type 0 where
  pub base : ℕ
  pub from : List ℕ
  pub before_it : UnitsDone s from base units
  pub whole : List ℕ
  pub head : sized 6 7 from ≡ item whole behind
  pub done : List (List Obu)
  pub passed : Passed frame_unit whole left done
  pub bytes-are : bytes ≡ base + length (unit_bytes (flat done))
  pub few : bytes + 12 * (length left + length behind) ≤ 12 * length s

-- of a frame unit the OBUs before what is left are read; `rest` follows it in its unit, `behind` the unit
pub record ObusDone (s left rest behind : List ℕ) (bytes units : ℕ) : Type 0 where
  pub base : ℕ
  pub from : List ℕ
  pub before_it : FramesDone s from behind base units
  pub whole : List ℕ
  pub head : sized 8 9 from ≡ item whole rest
  pub done : List Obu
  pub passed : Passed length_obu whole left done
  pub bytes-are : bytes ≡ base + length (unit_bytes done)
  pub few : bytes + 12 * (length left + length rest + length behind) ≤ 12 * length s

no_bytes : length (unit_bytes []) ≡ 0
unfolding unit_bytes flat_map
no_bytes = refl

none-flat : {A : Type 0} → ◌≡◌ {A = List A} (flat []) []
unfolding flat
none-flat = refl

pub units-start : (s : List ℕ) → UnitsDone s s 0 0
units-start s =
    record {
      done = [];
      passed = passed_start temporal_unit temporal-shrinks s;
      bytes-are = sym no_bytes ∙ ap (λ l. length (unit_bytes l)) (sym none-flat);
      units-are = refl;
      few = omega arith;
      fewer = omega arith;
    }

module _ {s left : List ℕ} {bytes units : ℕ} (u : UnitsDone s left bytes units) where
  pub frames-start : {unit behind : List ℕ} → sized 6 7 left ≡ item unit behind → FramesDone s unit behind bytes units
  frames-start {unit} {behind} q =
      record {
        base = bytes;
        from = left;
        before_it = u;
        whole = unit;
        head = q;
        done = [];
        passed = passed_start frame_unit frame-shrinks unit;
        bytes-are = let z = no_bytes in rw (none-flat {A = Obu}) (omega arith);
        few = omega (arith, u.few, part-less 6 7 left q);
      }

  -- a fault in a unit is that of all
  pub units-fault : {k : ℕ} → 0 < length left → temporal_unit left ≡ stop k → many temporal_unit s ≡ refused k
  units-fault {k} l q = passed-stop temporal_unit temporal-shrinks s u.passed l k q

  pub units-stop : {k : ℕ} → 0 < length left → sized 6 7 left ≡ stop k → many temporal_unit s ≡ refused k
  unfolding temporal_unit_of
  units-stop l q = units-fault l (rw q)

  pub units-sizes : length left ≡ 0 → accepted (record { bytes = bytes; units = units }) ≡ sizes_of (units_read s)
  units-sizes l =
      let a : length (stream_bytes (map unit_bytes u.done)) ≡ bytes = ap length (bytes-flat u.done) ∙ sym u.bytes-are in
      let b : length (map unit_bytes u.done) ≡ units = length-map u.done unit_bytes ∙ sym u.units-are in
      rw (passed-end temporal_unit temporal-shrinks s u.passed l, a, b)

module _ {s left behind : List ℕ} {bytes units : ℕ} (f : FramesDone s left behind bytes units) where
  in-unit : 0 < length f.from
  in-unit = omega (arith, part-less 6 7 f.from f.head)

  -- the unit that is read
  unit-is : {x : Answer (List (List Obu))} → many frame_unit f.whole ≡ x → temporal_unit f.from ≡ before behind (answer flat x)
  unfolding temporal_unit_of
  unit-is q = rw (f.head, q)

  -- a fault in a frame unit is that of all
  pub frames-fault : {k : ℕ} → 0 < length left → frame_unit left ≡ stop k → many temporal_unit s ≡ refused k
  frames-fault {k} l q =
      units-fault f.before_it in-unit (unit-is (passed-stop frame_unit frame-shrinks f.whole f.passed l k q))

  pub frames-stop : {k : ℕ} → 0 < length left → sized 8 9 left ≡ stop k → many temporal_unit s ≡ refused k
  unfolding frame_unit_of
  frames-stop l q = frames-fault l (rw q)

  pub obus-start : {frame rest : List ℕ} → sized 8 9 left ≡ item frame rest → ObusDone s frame rest behind bytes units
  obus-start {frame} {rest} q =
      record {
        base = bytes;
        from = left;
        before_it = f;
        whole = frame;
        head = q;
        done = [];
        passed = passed_start length_obu length-shrinks frame;
        bytes-are = omega (arith, no_bytes);
        few = omega (arith, f.few, part-less 8 9 left q);
      }

  -- the whole unit is read
  pub frames-end : length left ≡ 0 → UnitsDone s behind bytes (units + 1)
  frames-end l =
      let u = f.before_it in
      let e = passed-end frame_unit frame-shrinks f.whole f.passed l in
      let n = ap length (flat-bytes u.done (flat f.done)) ∙ length-append (unit_bytes (flat u.done)) (unit_bytes (flat f.done)) in
      record {
        done = u.done ++ (flat f.done ∷ []);
        passed = passed-next temporal_unit temporal-shrinks s u.passed (unit-is e);
        bytes-are = f.bytes-are ∙ omega (arith, u.bytes-are);
        units-are = omega (arith, u.units-are, length-append u.done (flat f.done ∷ []));
        few = omega (arith, f.few);
        fewer = omega (arith, u.fewer, part-less 6 7 f.from f.head);
      }

module _ {s left rest behind : List ℕ} {bytes units : ℕ} (b : ObusDone s left rest behind bytes units) where
  in_frame : 0 < length b.from
  in_frame = omega (arith, part-less 8 9 b.from b.head)

  -- the frame unit that is read
  frame_is : {x : Answer (List Obu)} → many length_obu b.whole ≡ x → frame_unit b.from ≡ before rest x
  unfolding frame_unit_of
  frame_is e = rw (b.head, e)

  pub obus-stop : {k : ℕ} → 0 < length left → length_obu left ≡ stop k → many temporal_unit s ≡ refused k
  obus-stop {k} l e = frames-fault b.before_it in_frame (frame_is (passed-stop length_obu length-shrinks b.whole b.passed l k e))

  pub obus-next : length s ≤ limit → {o : Obu} {r : List ℕ} {n : ℕ} → length_obu left ≡ item o r → n ≡ capped (obu_length o.ext (length o.payload))
      → ObusDone s r rest behind (bytes + n) units
  obus-next l {o} {r} {n} q m =
      let w = obu-measured left q (omega (arith, b.few)) m in
      let v = ap length (unit-more b.done o) ∙ length-append (unit_bytes b.done) (obu_bytes o) in
      record {
        base = b.base;
        from = b.from;
        before_it = b.before_it;
        whole = b.whole;
        head = b.head;
        done = b.done ++ (o ∷ []);
        passed = passed-next length_obu length-shrinks b.whole b.passed q;
        bytes-are = omega (arith, b.bytes-are, w.0);
        few = omega (arith, b.few, w.1);
      }

  -- the whole frame unit is read
  pub obus-end : length left ≡ 0 → FramesDone s rest behind bytes units
  obus-end l =
      let f = b.before_it in
      let e = passed-end length_obu length-shrinks b.whole b.passed l in
      let n = ap length (flat-bytes f.done b.done) ∙ length-append (unit_bytes (flat f.done)) (unit_bytes b.done) in
      record {
        base = f.base;
        from = f.from;
        before_it = f.before_it;
        whole = f.whole;
        head = f.head;
        done = f.done ++ (b.done ∷ []);
        passed = passed-next frame_unit frame-shrinks f.whole f.passed (frame_is e);
        bytes-are = omega (arith, b.bytes-are, f.bytes-are);
        few = omega (arith, b.few);
      }

-- the first fault is the answer
pub fault-says : (s : List ℕ) {k : ℕ} → many temporal_unit s ≡ refused k → refused k ≡ sizes_of (units_read s)
fault-says s e = rw e

-- The outcomes of reading Annex B into lent memory.
use Prim.Native.Nat.{ℕ, ◌≤◌, ◌<◌}
use native.Mathlib.Omega.{arith}
use mathlib.Core.Path.{◌≡◌, refl, sym, ap, ◌∙◌}
use mathlib.Core.List.{List, [], ◌∷◌, map}
use mathlib.Core.Bool.{true, false, cond as pick, ◌&&◌}
use lib.ListN.{length, length-map}
use lib.Dec.{leb}
use borrow.Author.Tests.{le-leb, lt-leb, leb-true}
use Rattle.bitio.specs.Parse.{Answer, refused, accepted, answer, many}
use Rattle.bitio.proofs.ParseLaws.{and_both}
use Rattle.obu.specs.Obu.{Obu, unit_bytes}
use Rattle.container.specs.Stream.{stream_bytes}
use Rattle.container.specs.AnnexB.{temporal_unit, annexb_units_of, annexb_units}
use Rattle.bitio.specs.Limits.{limit}
use Rattle.container.specs.Limits.{Room, fits, fit_units, room_in}
use Rattle.container.specs.Container.{annexb, read}
use Rattle.container.specs.declared.units.Sizes.{Sizes}
use Rattle.container.specs.Units.{sizes_of, bytes_after, ends_after}
use Rattle.annexb.specs.code.Fill.{UnitsRoom, Filled, units_read}
use Rattle.container.proofs.AnnexBLaws.{annexb-some}

-- an answer's three parts, as a reader's three clauses ask them
abbrev pub Says : Answer (List (List ℕ)) → Answer Sizes → (d e d' e' : List ℕ) → Type 0
Says x a d e d' e' = (a ≡ sizes_of x) × ((d' ≡ bytes_after x d) × (e' ≡ ends_after x e))

-- a refusal changes nothing
pub says-refused : {x : Answer (List (List ℕ))} {k : ℕ} (d e : List ℕ) → x ≡ refused k → Says x (refused k) d e d e
says-refused d e q = (rw q, (rw q, rw q))

module _ (room : Room) (s : List ℕ) where
  pub read-long : {k : ℕ} → (limit < length s) × (k ≡ 34) → read annexb room s ≡ refused k
  unfolding read
  read-long (l, q) = rw (lt-leb (length s) limit l, q)

  pub read-empty : length s ≡ 0 → read annexb room s ≡ refused 13
  unfolding read annexb_units_of
  read-empty l = go s l
    where
      go : (t : List ℕ) → length t ≡ 0 → pick (leb (length t) limit) (fit_units room (annexb_units t)) (refused 34) ≡ refused 13
      go [] l = refl
      go (b ∷ t) l = absurd (omega arith)

-- units that were measured: n bytes, u units
pub record Counted (s : List ℕ) (n u : ℕ) : Type 0 where
  pub units : List (List Obu)
  pub reads : many temporal_unit s ≡ accepted units
  pub bytes-are : length (stream_bytes (map unit_bytes units)) ≡ n
  pub units-are : length units ≡ u

pub counted : (s : List ℕ) {n u : ℕ} → sizes_of (units_read s) ≡ accepted (record { bytes = n; units = u }) → Counted s n u
counted s {n} {u} q = go (many temporal_unit s) refl q
  where
    go : (x : Answer (List (List Obu))) → many temporal_unit s ≡ x → sizes_of (answer (map unit_bytes) x) ≡ accepted (record { bytes = n; units = u }) → Counted s n u
    go (refused k) p q = let z : ◌≡◌ {A = ℕ} 0 1 = cc in absurd (omega arith)
    go (accepted us) p q =
        let z : ◌≡◌ {A = Sizes} (record { bytes = length (stream_bytes (map unit_bytes us)); units = length (map unit_bytes us) }) (record { bytes = n; units = u }) = cc in
        record { units = us; reads = p; bytes-are = ap (λ (x : Sizes). x.bytes) z; units-are = sym (length-map us unit_bytes) ∙ ap (λ (x : Sizes). x.units) z }

module _ (room : Room) (s : List ℕ) (l : length s ≤ limit) (some : 0 < length s) where
  read-units : read annexb room s ≡ fit_units room (units_read s)
  unfolding read
  read-units = rw (le-leb (length s) limit l, annexb-some s some)

  pub read-refused : {k : ℕ} → sizes_of (units_read s) ≡ refused k → read annexb room s ≡ refused k
  read-refused {k} q = read-units ∙ go (units_read s) q
    where
      go : (x : Answer (List (List ℕ))) → sizes_of x ≡ refused k → fit_units room x ≡ refused k
      go (refused j) q = let z : j ≡ k = cc in rw z
      go (accepted us) q = let z : ◌≡◌ {A = ℕ} 0 1 = cc in absurd (omega arith)

  module _ {n u : ℕ} (c : Counted s n u) where
    read_fits : read annexb room s ≡ pick (fits n u room) (units_read s) (refused 35)
    read_fits =
        let k : length (map unit_bytes c.units) ≡ u = length-map c.units unit_bytes ∙ c.units-are in
        read-units ∙ rw (c.reads, c.bytes-are, k)

    pub read-full : fits n u room ≡ false → read annexb room s ≡ refused 35
    read-full q = read_fits ∙ rw q

    pub read_whole : fits n u room ≡ true → read annexb room s ≡ units_read s
    read_whole q = read_fits ∙ rw q

-- with room the units can be written
pub measured : {s d e : List ℕ} {n u : ℕ} → Counted s n u → fits n u (room_in d e) ≡ true → UnitsRoom s d e
measured {d = d} {e} {n} {u} c q =
    let x = and_both (leb n limit) (leb n (length d) && leb u (length e)) q in
    let y = and_both (leb n (length d)) (leb u (length e)) x.1 in
    record {
      units = c.units;
      reads = c.reads;
      small = omega (arith, c.bytes-are, leb-true n limit x.0);
      room = omega (arith, c.bytes-are, leb-true n (length d) y.0);
      slots = omega (arith, c.units-are, leb-true u (length e) y.1);
    }

-- what was written is what was read
pub says-whole : (room : Room) {s d e d' e' : List ℕ} {a : Answer Sizes} → read annexb room s ≡ units_read s → a ≡ sizes_of (units_read s) → Filled s d e d' e' → Says (read annexb room s) a d e d' e'
says-whole room q m w = rw q (m, (w.out, w.ends))

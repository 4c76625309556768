-- The outcomes of writing Annex B into lent memory.
use Prim.Native.Nat.{ℕ, ◌≤◌, ◌<◌}
use native.Mathlib.Omega.{arith}
use mathlib.Core.Path.{◌≡◌, refl, ◌∙◌}
use mathlib.Core.List.{List}
use mathlib.Core.Bool.{true, false, cond as pick, ◌&&◌}
use lib.ListN.{length}
use lib.Dec.{leb}
use borrow.Author.Tests.{le-leb, lt-leb, leb-true}
use Rattle.bitio.specs.Parse.{Answer, refused, accepted, and_next}
use Rattle.container.specs.AnnexB.{annexb_bytes}
use Rattle.bitio.specs.Limits.{limit}
use Rattle.container.specs.Limits.{Room, bytes_room, fits, fit_bytes}
use Rattle.container.specs.Container.{annexb, write_at}
use Rattle.container.specs.Units.{units_at, count_of, out_after}
use Rattle.container.proofs.ListLaws.{units-listed}
use Rattle.container.specs.Lists.{listed, accepts}
use Rattle.annexb.specs.code.Join.{AnnexbRoom}
use Rattle.bitio.proofs.ParseLaws.{and_both}

-- an answer's two parts, as a writer's two clauses ask them
abbrev pub WriterSays : Answer (List ℕ) → Answer ℕ → (d d' : List ℕ) → Type 0
WriterSays x a d d' = (a ≡ count_of x) × (d' ≡ out_after x d)

-- a refusal changes nothing
pub writes-refused : {x : Answer (List ℕ)} {k : ℕ} (d : List ℕ) → x ≡ refused k → WriterSays x (refused k) d d
writes-refused d q = (rw q, rw q)

pub writes-whole : {x y : Answer (List ℕ)} {a : Answer ℕ} (d : List ℕ) {d' : List ℕ} → x ≡ y → a ≡ count_of y → d' ≡ out_after y d → WriterSays x a d d'
writes-whole d q m w = (rw q m, rw q w)

module _ (room : Room) (s es : List ℕ) where
  pub write-long : {k : ℕ} → (limit < length s) × (k ≡ 34) → write_at annexb room s es ≡ refused k
  unfolding write_at and_next
  write-long (l, q) = rw (lt-leb (length s) limit l, q)

  module _ (l : length s ≤ limit) where
    pub write-bad : {k : ℕ} → units_at s es ≡ refused k → write_at annexb room s es ≡ refused k
    unfolding write_at and_next
    write-bad q = rw (le-leb (length s) limit l, q)

    -- the units' bytes
    abbrev made : Answer (List ℕ)
    made = annexb_bytes (listed s es)

    module _ (a : accepts (units_at s es) ≡ true) where
      write-made : write_at annexb room s es ≡ fit_bytes room made
      unfolding write_at and_next
      write-made = rw (le-leb (length s) limit l, units-listed s es a)

      pub write-refused : {k : ℕ} → count_of made ≡ refused k → write_at annexb room s es ≡ refused k
      write-refused {k} q = write-made ∙ go made q
        where
          go : (x : Answer (List ℕ)) → count_of x ≡ refused k → fit_bytes room x ≡ refused k
          go (refused j) q = let z : j ≡ k = cc in rw z
          go (accepted bs) q = let z : ◌≡◌ {A = ℕ} 0 1 = cc in absurd (omega arith)

      module _ {n : ℕ} (q : count_of made ≡ accepted n) where
        write-fits : write_at annexb room s es ≡ pick (fits n 0 room) made (refused 35)
        write-fits = write-made ∙ go made q
          where
            go : (x : Answer (List ℕ)) → count_of x ≡ accepted n → fit_bytes room x ≡ pick (fits n 0 room) x (refused 35)
            go (refused j) q = let z : ◌≡◌ {A = ℕ} 0 1 = cc in absurd (omega arith)
            go (accepted bs) q = let z : length bs ≡ n = cc in rw z

        pub write-full : fits n 0 room ≡ false → write_at annexb room s es ≡ refused 35
        write-full f = write-fits ∙ rw f

        pub write-whole : fits n 0 room ≡ true → write_at annexb room s es ≡ made
        write-whole f = write-fits ∙ rw f

-- with room the units can be written
pub writing : (us : List (List ℕ)) (d : List ℕ) {n : ℕ} → count_of (annexb_bytes us) ≡ accepted n → fits n 0 (bytes_room (length d)) ≡ true → AnnexbRoom us d
writing us d {n} q f = go (annexb_bytes us) refl q
  where
    go : (x : Answer (List ℕ)) → annexb_bytes us ≡ x → count_of x ≡ accepted n → AnnexbRoom us d
    go (refused k) y q = let z : ◌≡◌ {A = ℕ} 0 1 = cc in absurd (omega arith)
    go (accepted bs) y q =
        let z : length bs ≡ n = cc in
        let b = and_both (leb n limit) (leb n (length d) && leb 0 0) f in
        let c = and_both (leb n (length d)) (leb 0 0) b.1 in
        record { bytes = bs; made = y; room = omega (arith, leb-true n (length d) c.0) }

-- What an accepted scan was read as, part by part.
use Prim.Native.Nat.{ℕ}
use native.Mathlib.Omega.{arith}
use mathlib.Core.Path.{◌≡◌, refl, sym, ap, ◌∙◌}
use mathlib.Core.List.{List}
use mathlib.Core.Bool.{Bool, true, false, cond as pick}
use Rattle.bitio.specs.Parse.{accepted}
use Rattle.bitio.specs.Bits.{Reading, fails, reads, and_then}
use Rattle.syntax.specs.Syntax.{run}
use Rattle.bitio.specs.Fields.{answer_of}
use Rattle.header.specs.declared.seq_header.SequenceHeader.{SequenceHeader}
use Rattle.frame.specs.declared.frame_header.FrameFront.{FrameFront}
use Rattle.geometry.specs.declared.slots.RefSlot.{RefSlot}
use Rattle.params.specs.Lossless.{sign_magnitude}
use Rattle.uheader.specs.Scan.{scan_front, scan_rest, scan_of, open_scan, scan_behind, scan_by, scan_header}
use Rattle.uheader.specs.declared.scan.Rest.{Rest}
use Rattle.uheader.specs.declared.scan.HeaderScan.{HeaderScan}

-- what was read first, and what followed
pub then-was : {A B : Type 0} {C : Type 0} (x : Reading A) (k : A → ℕ → Reading B) {b : B} {r : ℕ} → and_then x k ≡ reads b r
    → ((a : A) (q : ℕ) → x ≡ reads a q → k a q ≡ reads b r → C) → C
then-was (fails n) k e f = let z : ◌≡◌ {A = ℕ} 0 1 = cc in absurd (omega arith)
then-was (reads a q) k e f = f a q refl e

-- an answer that was accepted was read
pub answer-was : {A C : Type 0} (x : Reading A) {a : A} → answer_of x ≡ accepted a → ((r : ℕ) → x ≡ reads a r → C) → C
answer-was (fails n) e f = let z : ◌≡◌ {A = ℕ} 0 1 = cc in absurd (omega arith)
answer-was (reads b r) e f = f r (cc)

-- a choice that did not refuse
pub pick-was : {A C : Type 0} (t : Bool) (n : ℕ) (x : Reading A) {a : A} {r : ℕ} → pick t (fails n) x ≡ reads a r → (t ≡ false → x ≡ reads a r → C) → C
pick-was true n x e f = let z : ◌≡◌ {A = ℕ} 0 1 = cc in absurd (omega arith)
pick-was false n x e f = f refl e

module _ (h : SequenceHeader) (n : ℕ) (slots : List RefSlot) (f : List ℕ) where
  -- the parts of a scan that was accepted
  pub record Parts (x : HeaderScan) : Type 0 where
    pub full : h.opening.reduced_still_picture_header ≡ false
    pub idless : h.coding.ids.frame_id_numbers_present ≡ false
    pub front : FrameFront
    pub rest : Rest
    pub opened : open_scan h f ≡ reads front x.removal_insert_pos
    pub front_read : run (scan_front h) f 0 ≡ reads front x.removal_insert_pos
    pub rest_read : run (scan_rest sign_magnitude h n slots front) f x.removal_insert_pos ≡ reads rest x.end_pos
    pub same : x ≡ scan_of front rest x.removal_insert_pos x.end_pos

  pub parts : (x : HeaderScan) → scan_header h n slots f ≡ accepted x → Parts x
  unfolding scan_header scan_by open_scan scan_behind
  parts x e =
      answer-was (scan_by sign_magnitude h n slots f) e (λ end g.
      then-was (open_scan h f) _ g (λ front insert o g.
      pick-was h.opening.reduced_still_picture_header 17 _ o (λ full a.
      pick-was h.coding.film_grain_params_present 20 _ a (λ grain a.
      pick-was h.coding.ids.frame_id_numbers_present 18 _ a (λ ids a.
      then-was (run (scan_rest sign_magnitude h n slots front) f insert) _ g (λ rest last b g.
      made front rest insert last full ids o a b (cc)))))))
    where
      made : (front : FrameFront) (rest : Rest) (insert last : ℕ)
          → h.opening.reduced_still_picture_header ≡ false → h.coding.ids.frame_id_numbers_present ≡ false
          → open_scan h f ≡ reads front insert → run (scan_front h) f 0 ≡ reads front insert → run (scan_rest sign_magnitude h n slots front) f insert ≡ reads rest last
          → scan_of front rest insert last ≡ x → Parts x
      made front rest insert last full ids o a b g =
          let i : insert ≡ x.removal_insert_pos = ap (λ (y : HeaderScan). y.removal_insert_pos) g in
          let l : last ≡ x.end_pos = ap (λ (y : HeaderScan). y.end_pos) g in
          record {
            full = full;
            idless = ids;
            front = front;
            rest = rest;
            opened = o ∙ ap (reads front) i;
            front_read = a ∙ ap (reads front) i;
            rest_read = ap (λ p. run (scan_rest sign_magnitude h n slots front) f p) (sym i) ∙ b ∙ ap (reads rest) l;
            same = sym g ∙ ap (λ p. scan_of front rest p last) i ∙ ap (λ p. scan_of front rest x.removal_insert_pos p) l;
          }

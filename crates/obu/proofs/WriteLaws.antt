-- Laws of writing an OBU.
use Prim.Native.Nat.{ℕ, ◌+◌, ◌-◌, ◌*◌, ◌≤◌, ◌<◌}
use borrow.Rule.Slice.PartMut.{put_mid, Post-is}
use native.Mathlib.Omega.{arith}
use mathlib.Core.Path.{◌≡◌, ap, ap₂, ◌∙◌}
use mathlib.Core.List.{List, [], ◌∷◌, ◌++◌, append_assoc}
use mathlib.Core.Option.{Option, none, some}
use mathlib.Core.Bool.{true, false}
use lib.ListN.{length, set, length-append}
use Rattle.bitio.specs.Parse.{accepted, refused}
use Rattle.bitio.specs.Lent.{pasted}
use Rattle.bitio.specs.Leb.{leb_bytes, framed}
use Rattle.bitio.proofs.LentLaws.{pasted-more, pasted-one, pasted-set, placed-room, lent-room, placed-full, lent-full}
use Rattle.obu.specs.Obu.{passes, ext_bytes, header, obu_bytes}
use Rattle.obu.specs.Write.{obu_length, obu, obu_placed, obu_lent}
use Rattle.obu.proofs.LengthLaws.{obu-length}

pub ext-most : (e : Option ℕ) → length (ext_bytes e) ≤ 1
ext-most none = omega arith
ext-most (some x) = omega arith

-- a header byte alone, and with an extension byte
pub header-plain : (d : List ℕ) (at t f : ℕ) → at < length d → set d at (t * 8 + f) ≡ pasted d at (header f t none)
header-plain d at t f l = let e : t * 8 + f ≡ 8 * t + 0 + f = omega arith in rw e (pasted-one d at (8 * t + 0 + f) l)

pub header-ext : (d : List ℕ) (at t f e : ℕ) → at + 1 < length d → set (set d at (t * 8 + 4 + f)) (at + 1) e ≡ pasted d at (header f t (some e))
header-ext d at t f e l =
    let q : t * 8 + 4 + f ≡ 8 * t + 4 + f = omega arith in
    let h = 8 * t + 4 + f in
    rw (q, pasted-one d at h (omega arith)) (pasted-set d at (h ∷ []) e l)

-- what a copy of all of s into a part as long leaves
pub copied-there : (d s : List ℕ) (at : ℕ) {ys : List ℕ} → ys ≡ s → put_mid at (at + length s - at) d ys ≡ pasted d at s
unfolding pasted
copied-there d s at e = rw (e, Post-is at (at + length s) d (omega arith))

-- header, size and payload, one behind the other
pub obu-pasted : (d : List ℕ) (at t : ℕ) (e : Option ℕ) (p : List ℕ) {a b c : List ℕ} {i j : ℕ} → at ≤ length d
    → a ≡ pasted d at (header 2 t e) → i ≡ at + (1 + length (ext_bytes e))
    → at + (1 + length (ext_bytes e)) ≤ length d
    → b ≡ pasted a i (leb_bytes (length p)) → j ≡ i + length (leb_bytes (length p))
    → c ≡ pasted b j p
    → c ≡ pasted d at (obu_bytes (obu t e p))
unfolding obu_bytes framed
obu-pasted d at t e p {a} {b} {c} {i} {j} h ea ei r eb ej ec =
    let hd = header 2 t e in
    let lb = leb_bytes (length p) in
    let n = length-append hd lb in
    let m : at + (1 + length (ext_bytes e)) ≡ at + length hd = omega arith in
    let k : i + length lb ≡ at + length (hd ++ lb) = omega arith in
    let ob : b ≡ pasted d at (hd ++ lb) = eb ∙ ap₂ (λ x y. pasted x y lb) ea (ei ∙ m) ∙ pasted-more d at hd h lb in
    ec ∙ ap₂ (λ x y. pasted x y p) ob (ej ∙ k) ∙ pasted-more d at (hd ++ lb) h p ∙ ap (pasted d at) (append_assoc hd lb p)

-- ---- the outcomes of writing an OBU

module _ (d : List ℕ) (at t : ℕ) (e : Option ℕ) (p : List ℕ) where
  pub obu-wrong : passes t ≡ false → (refused 2 ≡ obu_placed d at t e p) × (d ≡ obu_lent d at t e p)
  unfolding obu_placed obu_lent
  obu-wrong w = (rw w, rw w)

  module _ (ok : passes t ≡ true) where
    pub obu-full : length d < at + obu_length e (length p) → (refused 35 ≡ obu_placed d at t e p) × (d ≡ obu_lent d at t e p)
    unfolding obu_placed obu_lent
    obu-full l =
        let n = obu-length (obu t e p) in
        let b = obu_bytes (obu t e p) in
        (rw (ok, placed-full d at b (omega arith)), rw (ok, lent-full d at b (omega arith)))

    pub obu-there : {n : ℕ} {o : List ℕ} → at + obu_length e (length p) ≤ length d → n ≡ at + obu_length e (length p) → o ≡ pasted d at (obu_bytes (obu t e p))
        → (accepted n ≡ obu_placed d at t e p) × (o ≡ obu_lent d at t e p)
    unfolding obu_placed obu_lent
    obu-there l q r =
        let n = obu-length (obu t e p) in
        let b = obu_bytes (obu t e p) in
        (rw (ok, placed-room d at b (omega arith)) (ap accepted (omega arith)), rw (ok, lent-room d at b (omega arith)) r)

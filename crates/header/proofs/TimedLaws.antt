-- Laws of timed sequence headers.
use Prim.Native.Nat.{ℕ}
use native.Mathlib.Omega.{arith}
use mathlib.Core.Path.{◌≡◌, refl, ap}
use mathlib.Core.Bool.{Bool, true, false, cond as pick, and-false}
use Rattle.bitio.specs.Parse.{refused, accepted}
use Rattle.header.specs.Support.{has_point_info, support}
use Rattle.header.specs.Timed.{retimed, with_timing, timed}
use Rattle.header.specs.declared.seq_header.SequenceHeader.{SequenceHeader}

-- ---- what a supported header is

pub record Supports (h : SequenceHeader) : Type 0 where
  pub full : h.opening.reduced_still_picture_header ≡ false
  pub ids : h.coding.ids.frame_id_numbers_present ≡ false
  pub points : has_point_info h.opening ≡ false
  pub grain : h.coding.film_grain_params_present ≡ false

four : (a b c d : Bool) → pick a (refused 17) (pick b (refused 18) (pick c (refused 19) (pick d (refused 20) (accepted (tt {0}))))) ≡ accepted tt
    → (a ≡ false) × (b ≡ false) × (c ≡ false) × (d ≡ false)
four true b c d e = let z : ◌≡◌ {A = ℕ} 0 1 = cc in absurd (omega arith)
four false true c d e = let z : ◌≡◌ {A = ℕ} 0 1 = cc in absurd (omega arith)
four false false true d e = let z : ◌≡◌ {A = ℕ} 0 1 = cc in absurd (omega arith)
four false false false true e = let z : ◌≡◌ {A = ℕ} 0 1 = cc in absurd (omega arith)
four false false false false e = (refl, refl, refl, refl)

pub supports : (h : SequenceHeader) → support h ≡ accepted tt → Supports h
unfolding support
supports h e =
    let (a, b, c, d) = four h.opening.reduced_still_picture_header h.coding.ids.frame_id_numbers_present (has_point_info h.opening) h.coding.film_grain_params_present e in
    record { full = a; ids = b; points = c; grain = d }

-- ---- timing

module _ (num den : ℕ) where
  -- a header that is not reduced can be timed
  pub timed-full : (h : SequenceHeader) → h.opening.reduced_still_picture_header ≡ false → timed num den h ≡ accepted (with_timing num den h)
  unfolding timed
  timed-full h e = ap (λ t. pick t (refused 17) (accepted (with_timing num den h))) e

  -- a supported header can be timed
  pub timed-of : (h : SequenceHeader) → support h ≡ accepted tt → timed num den h ≡ accepted (with_timing num den h)
  timed-of h e = timed-full h (supports h e).full

timing-supported : (num den : ℕ) (h : SequenceHeader) → Supports h → support (with_timing num den h) ≡ accepted tt
unfolding support with_timing retimed
timing-supported num den h q = rw (q.full, q.ids, and-false h.opening.model.decoder_model_info_present, q.grain)

-- the timed header of a supported header is supported
pub timed-supported : (num den : ℕ) (h x : SequenceHeader) → timed num den h ≡ accepted x → support h ≡ accepted tt → support x ≡ accepted tt
timed-supported num den h x t e =
    let q = supports h e in
    let f = timed-full num den h q.full in
    let w : with_timing num den h ≡ x = cc in
    rw w at (timing-supported num den h q)

-- What stands before the operating points, as it is read.
use mathlib.Core.Path.{◌≡◌, refl}
use Prim.Native.Nat.{ℕ}
use mathlib.Core.List.{List}
use mathlib.Core.Bool.{Bool, true, false, cond as pick}
use lib.Dec.{leb, ltb}
use borrow.Author.Tests.{ltb-false, le-leb}
use Rattle.bitio.specs.Bits.{Reading, fails}
use Rattle.emittable.specs.PutFields.{put, fits}
use Rattle.header.specs.SequenceRules.{ours}
use Rattle.header.specs.SequenceOpening.{timing_info, decoder_model_info, opening}
use Rattle.emittable.specs.PutSequence.{put_timing, put_model, put_opening}
use Rattle.emittable.specs.Emittable.{timing_fits, model_fits, opening_fits}
use Rattle.emit.proofs.FormFields.{Holds, holds-reads, holds-fails, holds_then, Formed, formed-then, formed-also, bits-form, flag-form, or-form, flag-or-form, uvlc-or-form}

-- AV1 5.5.3 timing_info
pub timing-form : (s : List ℕ) (p : ℕ) (full : Bool) → Holds (λ t q. Formed s p (timing_fits full t) (put_timing full t) q) (timing_info ours s p full)
unfolding put_timing timing_fits timing_info
timing-form s p full =
    holds_then _ (flag-or-form _ _ _ _) (λ v p f1.
    holds_then _ (or-form _ _ _ _ _) (λ v p f2.
    holds_then _ (or-form _ _ _ _ _) (λ v p f3.
    holds_then _ (flag-or-form _ _ _ _) (λ v p f4.
    holds_then _ (uvlc-or-form _ _ _) (λ v p f5.
    holds-reads (formed-then (formed-then (formed-then (formed-then f1 f2) f3) f4) f5))))))

-- AV1 5.5.4 decoder_model_info
pub model-form : (s : List ℕ) (p : ℕ) (timed : Bool) → Holds (λ m q. Formed s p (model_fits timed m) (put_model timed m) q) (decoder_model_info s p timed)
unfolding put_model model_fits decoder_model_info
model-form s p timed =
    holds_then _ (flag-or-form _ _ _ _) (λ v p f1.
    holds_then _ (or-form _ _ _ _ _) (λ v p f2.
    holds_then _ (or-form _ _ _ _ _) (λ v p f3.
    holds_then _ (or-form _ _ _ _ _) (λ v p f4.
    holds_then _ (or-form _ _ _ _ _) (λ v p f5.
    holds-reads (formed-then (formed-then (formed-then (formed-then f1 f2) f3) f4) f5))))))

-- what a condition does not refuse
unless : {A : Type 0} {P : A → ℕ → Type 0} (t : Bool) (k : ℕ) (x : Reading A) → (t ≡ false → Holds P x) → Holds P (pick t (fails k) x)
unless true k x h = holds-fails
unless false k x h = h refl

-- a profile that is not refused is up to 2
profile-form : {s : List ℕ} {p q : ℕ} (v : ℕ) → ltb 2 v ≡ false → Formed s p (fits 3 v) (put 3 v) q → Formed s p (leb v 2) (put 3 v) q
profile-form v e f = record { good = le-leb v 2 (ltb-false 2 v e); bits = f.bits }

-- AV1 5.5.1, up to operating_points_cnt_minus_1
pub opening-form : (s : List ℕ) (p : ℕ) → Holds (λ o q. Formed s p (opening_fits o) (put_opening o) q) (opening ours s p)
unfolding put_opening opening_fits opening
opening-form s p =
    holds_then _ (bits-form _ _ _) (λ profile p f1.
    holds_then _ (flag-form _ _) (λ v p f2.
    holds_then _ (flag-form _ _) (λ v p f3.
    unless (ltb 2 profile) _ _ (λ e.
    holds_then _ (timing-form _ _ _) (λ v p f4.
    holds_then _ (model-form _ _ _) (λ v p f5.
    holds_then _ (flag-or-form _ _ _ _) (λ v p f6.
    holds_then _ (or-form _ _ _ _ _) (λ v p f7.
    holds-reads (formed-then (formed-then (formed-then (formed-then (formed-also (formed-also (profile-form profile e f1) f2) f3) f4) f5) f6) f7)))))))))

-- What stands before the operating points is read back, section by section.
use mathlib.Core.Path.{◌≡◌}
use Prim.Native.Nat.{ℕ, ◌≤◌}
use native.Mathlib.Omega.{arith}
use mathlib.Core.List.{List}
use mathlib.Core.Bool.{Bool, true, false}
use lib.Dec.{ltb}
use borrow.Author.Tests.{leb-true, lt-ltb, le-ltb}
use Rattle.bitio.proofs.SeesLaws.{Sees}
use Rattle.emittable.specs.PutFields.{fits}
use Rattle.header.specs.SequenceRules.{ours}
use Rattle.header.specs.SequenceOpening.{timing_info, decoder_model_info, opening}
use Rattle.emittable.specs.PutSequence.{put_timing, put_model, put_opening}
use Rattle.emittable.specs.Emittable.{timing_fits, model_fits, opening_fits}
use Rattle.header.specs.declared.seq_header.TimingInfo.{TimingInfo}
use Rattle.header.specs.declared.seq_header.DecoderModelInfo.{DecoderModelInfo}
use Rattle.header.specs.declared.seq_header.Opening.{Opening}
use Rattle.emittable.proofs.BackFields.{Back, done, next, bits_back, flag-back, or-back, flag-or-back, uvlc-or-back}
use Rattle.bitio.proofs.ParseLaws.{and_both}

-- AV1 5.5.3 timing_info
pub timing-back : (full : Bool) (t : TimingInfo) (l : List ℕ) {s : List ℕ} {p : ℕ} → timing_fits full t ≡ true → Sees s p (put_timing full t l) → Back s (timing_info ours s p full) t l
unfolding put_timing timing_fits timing_info
timing-back full t l g k =
    let (g, g5) = and_both _ _ g in
    let (g, g4) = and_both _ _ g in
    let (g, g3) = and_both _ _ g in
    let (g1, g2) = and_both _ _ g in
    next _ _ (flag-or-back _ _ _ _ g1 k) (λ p k.
    next _ _ (or-back _ _ _ _ _ g2 (omega arith) k) (λ p k.
    next _ _ (or-back _ _ _ _ _ g3 (omega arith) k) (λ p k.
    next _ _ (flag-or-back _ _ _ _ g4 k) (λ p k.
    next _ _ (uvlc-or-back _ _ _ g5 k) (λ p k.
    done _ k)))))

-- AV1 5.5.4 decoder_model_info
pub model-back : (timed : Bool) (m : DecoderModelInfo) (l : List ℕ) {s : List ℕ} {p : ℕ} → model_fits timed m ≡ true → Sees s p (put_model timed m l) → Back s (decoder_model_info s p timed) m l
unfolding put_model model_fits decoder_model_info
model-back timed m l g k =
    let (g, g5) = and_both _ _ g in
    let (g, g4) = and_both _ _ g in
    let (g, g3) = and_both _ _ g in
    let (g1, g2) = and_both _ _ g in
    next _ _ (flag-or-back _ _ _ _ g1 k) (λ p k.
    next _ _ (or-back _ _ _ _ _ g2 (omega arith) k) (λ p k.
    next _ _ (or-back _ _ _ _ _ g3 (omega arith) k) (λ p k.
    next _ _ (or-back _ _ _ _ _ g4 (omega arith) k) (λ p k.
    next _ _ (or-back _ _ _ _ _ g5 (omega arith) k) (λ p k.
    done _ k)))))

-- a profile up to 2 has its three bits, and is not refused
profile-fits : (n : ℕ) → n ≤ 2 → fits 3 n ≡ true
unfolding fits
profile-fits n h = lt-ltb n 8 (omega arith)

-- AV1 5.5.1, up to operating_points_cnt_minus_1
pub opening-back : (o : Opening) (l : List ℕ) {s : List ℕ} {p : ℕ} → opening_fits o ≡ true → Sees s p (put_opening o l) → Back s (opening ours s p) o l
unfolding opening_fits put_opening opening
opening-back o l g k =
    let (g, g5) = and_both _ _ g in
    let (g, g4) = and_both _ _ g in
    let (g, g3) = and_both _ _ g in
    let (g1, g2) = and_both _ _ g in
    let h = leb-true o.seq_profile 2 g1 in
    let e : ltb 2 o.seq_profile ≡ false = le-ltb 2 o.seq_profile h in
    next _ _ (bits_back _ _ _ (profile-fits _ h) (omega arith) k) (λ p k.
    next _ _ (flag-back _ _ k) (λ p k.
    next _ _ (flag-back _ _ k) (λ p k.
    rw e
    (next _ _ (timing-back _ _ _ g2 k) (λ p k.
    next _ _ (model-back _ _ _ g3 k) (λ p k.
    next _ _ (flag-or-back _ _ _ _ g4 k) (λ p k.
    next _ _ (or-back _ _ _ _ _ g5 (omega arith) k) (λ p k.
    done _ k))))))))

-- Bounds of what a sequence header is read as.
use Prim.Native.Nat.{ℕ, ◌≤◌, ◌<◌}
use mathlib.Core.List.{List}
use mathlib.Core.Bool.{Bool, false, not}
use lib.Dec.{ltb, lit<}
use borrow.Author.Tests.{ltb-false}
use Rattle.bitio.specs.Bits.{read_bits}
use Rattle.bitio.proofs.ParseLaws.{pick-cases}
use Rattle.bitio.specs.Fields.{read_flag, read_or, flag_or}
use Rattle.header.specs.SequenceRules.{Rules}
use Rattle.header.specs.SequenceOpening.{timing_info, decoder_model_info, opening}
use Rattle.header.specs.declared.seq_header.DecoderModelInfo.{DecoderModelInfo}
use Rattle.header.specs.declared.seq_header.Opening.{Opening}
use Rattle.header.proofs.ReadLaws.{Holds, then-holds, then-any, or_lt}

-- buffer delays and removal times have up to 32 bits
pub record ModelWithin (m : DecoderModelInfo) : Type 0 where
  pub delay : m.buffer_delay_length_minus_1 < 32
  pub removal : m.buffer_removal_time_length_minus_1 < 32

pub model-within : (s : List ℕ) (p : ℕ) (timed : Bool) → Holds ModelWithin (decoder_model_info s p timed)
unfolding decoder_model_info
model-within s p timed =
    then-any ModelWithin (flag_or s p timed false) _ (λ present p.
    then-holds (λ v. v < 32) ModelWithin (read_or s p present 5 0) _ (or_lt s p present 5 0 (lit< tt)) (λ delay p d.
    then-any ModelWithin (read_or s p present 32 0) _ (λ tick p.
    then-holds (λ v. v < 32) ModelWithin (read_or s p present 5 0) _ (or_lt s p present 5 0 (lit< tt)) (λ removal p r.
    then-any ModelWithin (read_or s p present 5 0) _ (λ presentation p. record { delay = d; removal = r })))))

-- the profile is 0 to 2, and there are up to 32 operating points
pub record OpeningWithin (o : Opening) : Type 0 where
  pub profile : o.seq_profile ≤ 2
  pub model : ModelWithin o.model
  pub count : o.operating_points_cnt_minus_1 < 32

pub opening-within : (r : Rules) (s : List ℕ) (p : ℕ) → Holds OpeningWithin (opening r s p)
unfolding opening
opening-within r s p =
    then-any OpeningWithin (read_bits s p 3) _ (λ profile p.
    then-any OpeningWithin (read_flag s p) _ (λ still p.
    then-any OpeningWithin (read_flag s p) _ (λ reduced p.
    pick-cases (Holds OpeningWithin) (ltb 2 profile) (λ e. tt) (λ e.
    then-any OpeningWithin (timing_info r s p (not reduced)) _ (λ timing p.
    then-holds ModelWithin OpeningWithin (decoder_model_info s p timing.timing_info_present) _ (model-within s p timing.timing_info_present) (λ model p m.
    then-any OpeningWithin (flag_or s p (not reduced) false) _ (λ delay p.
    then-holds (λ v. v < 32) OpeningWithin (read_or s p (not reduced) 5 0) _ (or_lt s p (not reduced) 5 0 (lit< tt)) (λ more p c.
    record { profile = ltb-false 2 profile e; model = m; count = c }))))))))

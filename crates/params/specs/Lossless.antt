-- AV1 5.9.2 CodedLossless, by either way to take the bits of a signed number.
use Rattle.std.specs.Prelude.{ℕ, ◌+◌, ◌-◌, ◌^◌, List, Bool, ◌&&◌, cond as pick, eqb, ltb}
use Rattle.std.specs.List.{list_all}
use Rattle.params.specs.declared.quant.Quantizer.{Quantizer}

-- ---- the n + 1 bits v as a signed number: v itself below 2 ^ n, else so far below zero

-- the Rust's way, and the scan follows it: a sign, then the size
abbrev pub sign_magnitude : ℕ → ℕ → ℕ
sign_magnitude n v = v - 2 ^ n

-- AV1 4.10.6
abbrev pub twos_complement : ℕ → ℕ → ℕ
twos_complement n v = 2 ^ (n + 1) - v

-- how far above zero
abbrev pub upwards : ℕ → ℕ → ℕ
upwards n v = pick (ltb v (2 ^ n)) v 0

-- and how far below, by a rule for the upper half
abbrev pub downwards : (ℕ → ℕ → ℕ) → ℕ → ℕ → ℕ
downwards rule n v = pick (ltb v (2 ^ n)) 0 (rule n v)

abbrev pub is_zero : (ℕ → ℕ → ℕ) → ℕ → ℕ → Bool
is_zero rule n v = eqb (upwards n v + downwards rule n v) 0

-- ---- lossless

-- AV1 7.12.2 get_qindex with ignoreDeltaQ, cut at 0: its cut at 255 changes no 0, and makes none
abbrev pub qindex : (ℕ → ℕ → ℕ) → ℕ → ℕ → ℕ
qindex rule base alt-q = base + upwards 8 alt-q - downwards rule 8 alt-q

unfoldable pub no_delta : (ℕ → ℕ → ℕ) → Quantizer → Bool
no_delta rule q =
    is_zero rule 6 q.delta_q_y_dc
    && (is_zero rule 6 q.delta_q_u_dc
    && (is_zero rule 6 q.delta_q_u_ac
    && (is_zero rule 6 q.delta_q_v_dc
    && is_zero rule 6 q.delta_q_v_ac)))

-- AV1 5.9.2: with the bits of each segment's SEG_LVL_ALT_Q
unfoldable pub coded_lossless : (ℕ → ℕ → ℕ) → Quantizer → List ℕ → Bool
coded_lossless rule q alts = no_delta rule q && list_all (λ v. eqb (qindex rule q.base_q_idx v) 0) alts

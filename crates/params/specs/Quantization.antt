-- AV1 5.9.12 quantization_params: the base index, and the deltas as their seven bits stand.
use Rattle.std.specs.Prelude.{ℕ, ◌<◌, Bool, true, ◌&&◌, cond as pick, eqb}
use Rattle.syntax.specs.Syntax.{Syntax, done, field, sub}
use Rattle.params.specs.declared.quant.Quantizer.{Quantizer}

-- AV1 5.9.13 read_delta_q, where on: delta_coded, and su(1 + 6)
unfoldable pub read_delta_q : Bool → Syntax ℕ
read_delta_q on =
    field on 1 (λ coded.
    field (eqb coded 1) 7 (λ delta.
    done delta))

abbrev pub quantizer : ℕ → ℕ → ℕ → ℕ → ℕ → ℕ → Quantizer
quantizer base y-dc u-dc u-ac v-dc v-ac =
    record {
      base_q_idx = base;
      delta_q_y_dc = y-dc;
      delta_q_u_dc = u-dc;
      delta_q_u_ac = u-ac;
      delta_q_v_dc = v-dc;
      delta_q_v_ac = v-ac;
    }

-- AV1 5.9.12. color: more than one plane; apart: separate_uv_delta_q
unfoldable pub quantization_params : Bool → Bool → Syntax Quantizer
quantization_params color apart =
    field true 8 (λ base.
    sub (read_delta_q true) (λ y-dc.
    field (color && apart) 1 (λ diff.
    sub (read_delta_q color) (λ u-dc.
    sub (read_delta_q color) (λ u-ac.
    sub (read_delta_q (eqb diff 1)) (λ v-dc.
    sub (read_delta_q (eqb diff 1)) (λ v-ac.
    field true 1 (λ matrix.
    field (eqb matrix 1) 4 (λ qm-y.
    field (eqb matrix 1) 4 (λ qm-u.
    field (eqb matrix 1 && apart) 4 (λ qm-v.
    done (quantizer base y-dc u-dc u-ac (pick (eqb diff 1) v-dc u-dc) (pick (eqb diff 1) v-ac u-ac)))))))))))))

-- each number within its bits
pub record Ranged (q : Quantizer) : Type 0 where
  pub base : q.base_q_idx < 256
  pub y-dc : q.delta_q_y_dc < 128
  pub u-dc : q.delta_q_u_dc < 128
  pub u-ac : q.delta_q_u_ac < 128
  pub v-dc : q.delta_q_v_dc < 128
  pub v-ac : q.delta_q_v_ac < 128

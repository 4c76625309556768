-- AV1 5.9.17 delta_q_params and 5.9.18 delta_lf_params, of which delta_q_present is kept.
use Rattle.std.specs.Prelude.{ℕ, Bool, not, eqb}
use Rattle.syntax.specs.Syntax.{Syntax, done, field, read_over}

-- AV1 5.9.17
unfoldable pub delta_q_params : ℕ → Syntax Bool
delta_q_params base-q-idx =
    field (not (eqb base-q-idx 0)) 1 (λ present.
    field (eqb present 1) 2 (λ res.
    done (eqb present 1)))

-- AV1 5.9.18. on: delta_q_present, and no intra block copy
unfoldable pub delta_lf_params : Bool → Syntax (Unit {0})
delta_lf_params on =
    field on 1 (λ present.
    field (eqb present 1) 2 (λ res.
    field (eqb present 1) 1 (λ multi.
    read_over)))

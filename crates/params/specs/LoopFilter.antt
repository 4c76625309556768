-- AV1 5.9.11 loop_filter_params, of which nothing is kept.
use Rattle.std.specs.Prelude.{Bool, true, not, ◌&&◌, cond as pick, eqb}
use Rattle.syntax.specs.Syntax.{Syntax, done, field, sub}
use Rattle.syntax.specs.Repeat.{times}
use Rattle.params.specs.Quantization.{read_delta_q}

-- AV1 5.9.11. on: neither lossless nor intra block copy; color: more than one plane. The eight deltas of references and the two
-- of modes have the syntax of read_delta_q. A level that is not read is 0
unfoldable pub loop_filter_params : Bool → Bool → Syntax (Unit {0})
loop_filter_params on color =
    field on 6 (λ level-0.
    field on 6 (λ level-1.
    field (color && not (eqb level-0 0 && eqb level-1 0)) 6 (λ level-2.
    field (color && not (eqb level-0 0 && eqb level-1 0)) 6 (λ level-3.
    field on 3 (λ sharpness.
    field on 1 (λ delta-enabled.
    field (eqb delta-enabled 1) 1 (λ delta-update.
    sub (times (pick (eqb delta-update 1) 10 0) (read_delta_q true)) (λ nothing.
    done nothing))))))))
